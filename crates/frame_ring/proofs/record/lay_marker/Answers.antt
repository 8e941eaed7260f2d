use Rattle.std.proofs.Common.{◌∙◌, ap, take, ◌++◌, ◌∷◌, [], ℕ}
use Rattle.frame_ring.specs.Records.{bytes_of}
use Rattle.frame_ring.proofs.record.lay_marker.Goals as goal

pub returns-clause-bytes : goal.returns-clause-bytes
unfolding bytes_of
returns-clause-bytes c =
    c.put_number.ensures.front
    ∙ ap (λ (channel : ℕ). take c.args.at c.args.out.now ++ 2 ∷ channel ∷ c.list.result ∷ 0 ∷ 0 ∷ 0 ∷ 0 ∷ 0 ∷ []) c.channel.ensures.value
    ∙ ap (λ (list : ℕ). take c.args.at c.args.out.now ++ 2 ∷ c.args.marker.channel ∷ list ∷ 0 ∷ 0 ∷ 0 ∷ 0 ∷ 0 ∷ []) c.list.ensures.value
