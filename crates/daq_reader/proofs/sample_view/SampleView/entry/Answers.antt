use Rattle.std.proofs.Common.{◌≡◌, ℕ, ◌+◌, ◌-◌, ◌<◌, List, take, drop, length, map, vec_items, sym, ap, ◌∙◌, arith, refl, Some}
use Rattle.std.specs.Option.{option_copied}
use Rattle.daq_reader.specs.Recorded.{element}
use Rattle.daq_reader.specs.Reading.{Shown}
use Rattle.daq_reader.proofs.ViewLemmas.{element_none, element_some}
use Rattle.daq_reader.proofs.sample_view.SampleView.entry.Goals as goal

-- there is no such entry
pub returns-in_err-start : goal.returns-in_err-start
returns-in_err-start c =
    ap option_copied c.from_residual.ensures
    ∙ sym (element_none c.self.inside.shape.now (map vec_items c.self.inside.packets.now) c.args.k c.args.e c.in_err-start.ensures.place)
    ∙ ap (λ (v : Shown). element v.sample c.args.k c.args.e) c.self.view_is

-- the entry's bytes in its packet
pub returns : goal.returns
returns c =
    let here : c.args.k < length (map vec_items c.self.inside.packets.now) = omega (arith, c.in_ok-start.ensures.odt refl, c.self.invariant.all) in
    let size : c.in_ok-start.start + c.in_ok-start.size - c.in_ok-start.start ≡ c.in_ok-start.size = omega arith in
    let there = element_some c.self.inside.shape.now (map vec_items c.self.inside.packets.now) c.args.k c.args.e c.in_ok-start.start c.in_ok-start.size here c.in_ok-start.ensures.place in
    ap (λ (n : ℕ). Some (take n (drop c.in_ok-start.start c.packet_at.result.now))) size
    ∙ ap (λ (xs : List ℕ). Some (take c.in_ok-start.size (drop c.in_ok-start.start xs))) c.packet_at.ensures
    ∙ sym there
    ∙ ap (λ (v : Shown). element v.sample c.args.k c.args.e) c.self.view_is
