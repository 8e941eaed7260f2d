use Rattle.std.proofs.Common.{◌≡◌, ◌∙◌, ap, arith, ◌+◌, ◌-◌, drop, take}
use Rattle.frame_ring.specs.Reading.{flat}
use Rattle.frame_ring.proofs.RecordLemmas.{frames_stand}
use Rattle.frame_ring.proofs.frames.frames_of.Goals as goal

pub returns : goal.returns
returns c = λ s is len_is.
    let len = c.args.len in
    let same : 16 + len - 16 ≡ len = omega arith in
    ap (λ n. take n (drop 16 c.as_flattened.result.now)) same
    ∙ ap (λ bytes. take len (drop 16 bytes)) (c.as_flattened.ensures.value ∙ ap flat is) ∙ frames_stand s len len_is
