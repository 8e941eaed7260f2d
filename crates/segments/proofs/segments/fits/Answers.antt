use Rattle.std.proofs.Common.{rules, ◌≡◌, ◌+◌, ◌<◌, length, Bool, true, false, ◌&&◌, get_or, drop, ◌∙◌, ap, arith}
use Rattle.std.specs.Prelude.{zip, ◌==◌}
use Rattle.std.specs.List.{list_all}
use Rattle.segments.specs.Memory.{is_there, parts}
use Rattle.segments.proofs.FitLemmas.{fit_more, no_bytes, no_segment, not_fit}
use Rattle.segments.proofs.segments.fits.Goals as goal

-- the bytes of this segment aren't there
pub returns-then-not-is_there : goal.returns-then-not-is_there
returns-then-not-is_there c =
    let segments = c.args.segments.now in
    let memory = c.args.memory.now in
    let i = c.loop-i.i in
    let in_segments : i < length segments = search rules in
    let in_memory : i < length memory = omega (arith, in_segments, c.loop-i.invariant.0) in
    let rest : Bool = list_all (is_there c.args.channel) (zip (drop (i + 1) segments) (drop (i + 1) (parts memory))) in
    let no : is_there c.args.channel (get_or segments i no_segment, (get_or memory i no_bytes).now) ≡ false = search rules in
    let none : list_all (is_there c.args.channel) (zip segments (parts memory)) ≡ false =
    c.loop-i.invariant.1 ∙ fit_more c.args.channel segments memory i no_segment no_bytes in_segments in_memory ∙ ap (λ b. b && rest) no in
    not_fit (length (parts memory) == length segments) (list_all (is_there c.args.channel) (zip segments (parts memory))) none

-- the bytes of one segment more are there
pub loop-i-preserved : goal.loop-i-preserved
loop-i-preserved c =
    let segments = c.args.segments.now in
    let memory = c.args.memory.now in
    let i = c.loop-i.i in
    let in_segments : i < length segments = search rules in
    let in_memory : i < length memory = omega (arith, in_segments, c.loop-i.invariant.0) in
    let rest : Bool = list_all (is_there c.args.channel) (zip (drop (i + 1) segments) (drop (i + 1) (parts memory))) in
    let yes : is_there c.args.channel (get_or segments i no_segment, (get_or memory i no_bytes).now) ≡ true = search rules in (
      c.loop-i.invariant.0,
      c.loop-i.invariant.1 ∙ fit_more c.args.channel segments memory i no_segment no_bytes in_segments in_memory ∙ ap (λ b. b && rest) yes,
    )
