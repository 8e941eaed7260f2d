use Rattle.sample_picture.proofs.TextLemmas.{printed}
use Rattle.curve_picture.proofs.picture.CurvePicture.print.Goals as goal

-- what is written is the text
pub returns : goal.returns
returns g c =
    printed c.write_all.result c.as_bytes.result.now (g.W.Write.contents c.args.out.now) (g.W.Write.contents c.write_all.new.self)
    (rw c.as_bytes.ensures.value c.in_ok-text.ensures) c.write_all.ensures.bytes
