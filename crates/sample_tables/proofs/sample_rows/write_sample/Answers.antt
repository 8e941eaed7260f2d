use Rattle.std.proofs.Common.{◌<◌, ◌≤◌, [], arith, length, subst, sym}
use Rattle.std.specs.Io.KnownBytes.{Appends}
use Rattle.std.proofs.KnownBytes.{Appends-nil, Appends-trans}
use Rattle.std.proofs.lemmas.Option.{slice_get-get_or}
use Rattle.csv.specs.Writing.{text_written}
use Rattle.copy_plan.specs.Config.{odt}
use Rattle.sample_tables.specs.Rows.{odt_text}
use Rattle.sample_tables.proofs.PrintedLemmas.{enumerated_all, enumerated_more, enumerated_none}
use Rattle.sample_tables.proofs.sample_rows.write_sample.Goals as goal

-- no row yet
pub loop-k-init : goal.loop-k-init
loop-k-init g c = (
  c.requires,
  subst (λ t. Appends (text_written g.W.Write.contents c.args.rows.now) (text_written g.W.Write.contents c.args.rows.now) t)
      (sym (enumerated_none (odt_text c.args.shape.now c.args.at c.args.sample.now.sample) c.args.shape.now.odts)) (Appends-nil _),
)

-- the rows of one ODT more
pub loop-k-preserved : goal.loop-k-preserved
loop-k-preserved g c =
    let plan = c.args.shape.now in
    let f = odt_text plan c.args.at c.args.sample.now.sample in
    let k = c.loop-k.k in
    let within : k < length plan.odts = omega (arith, c.loop-k-test.true, c.odts-k-end.ensures.value) in
    let more = enumerated_more f plan.odts k (odt plan k) (slice_get-get_or plan.odts k [] within) in (
      c.in_ok-write_odt.ensures.between,
      subst (λ t. Appends (text_written g.W.Write.contents c.args.rows.now) (text_written g.W.Write.contents c.write_odt.new.rows) t) (sym more)
          (Appends-trans _ _ _ _ _ c.loop-k.invariant.1 c.in_ok-write_odt.ensures.text),
    )

-- those of all
pub returns-clause-text : goal.returns-clause-text
returns-clause-text g c =
    let plan = c.args.shape.now in
    let f = odt_text plan c.args.at c.args.sample.now.sample in
    let all : length plan.odts ≤ c.loop-k.k = omega (arith, c.loop-k-test.false, c.odts-k-end.ensures.value) in
    subst (λ t. Appends (text_written g.W.Write.contents c.args.rows.now) (text_written g.W.Write.contents c.loop-k.rows) t)
    (enumerated_all f plan.odts c.loop-k.k all) c.loop-k.invariant.1
