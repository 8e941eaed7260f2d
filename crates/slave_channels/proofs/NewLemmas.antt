-- Event channels and their tasks that are new.
use Rattle.std.proofs.Common.{◌≡◌, ℕ, zero, suc, ◌+◌, slice_get, List, [], ◌∷◌, ◌++◌, map, sym, ap, subst, ◌∙◌}
use Rattle.std.specs.Prelude.{Some, None}
use Rattle.std.proofs.lemmas.List.{length-append, map-append}
use Rattle.frame_ring.specs.declared.frame_send.FrameSend.{FrameSend}
use Rattle.slave_channels.specs.Channels.{ChannelState, no_measurement}
use Rattle.slave_channels.specs.Calls.{AreNew}
use Rattle.tasks.specs.Tasks.{TaskState, just_begun}

-- one more, on a line of its own
pub one-new : (n : ℕ) (xs ys : List ChannelState) (ts us : List (TaskState FrameSend)) (x : ChannelState) (t : TaskState FrameSend)
    → AreNew n xs ts → x ≡ no_measurement t.ring → t ≡ just_begun x.link.ring → ys ≡ xs ++ x ∷ [] → us ≡ ts ++ t ∷ [] → AreNew (n + 1) ys us
one-new n xs ys ts us x t so_far channel task more later = record {
  rings = so_far.rings ++ t.ring ∷ [];
  many = length-append so_far.rings (t.ring ∷ []) ∙ ap (λ k. k + 1) so_far.many;
  channels_are =
      more ∙ ap (λ zs. zs ++ x ∷ []) so_far.channels_are ∙ ap (λ z. map no_measurement so_far.rings ++ z ∷ []) channel
      ∙ sym (map-append no_measurement so_far.rings (t.ring ∷ []));
  tasks_are =
      later ∙ ap (λ zs. zs ++ t ∷ []) so_far.tasks_are
      ∙ ap (λ z. map just_begun so_far.rings ++ z ∷ []) (task ∙ ap (λ (c : ChannelState). just_begun c.link.ring) channel)
      ∙ sym (map-append just_begun so_far.rings (t.ring ∷ []));
}

none_some : {X : Type 0} (x : X) → None ≡ Some x → ⊥
none_some x e = cc

some_same : {X : Type 0} (x y : X) → Some x ≡ Some y → x ≡ y
some_same x y e = cc

-- what stands in lists that are made so
pub at-map : {A B : Type 0} (f : A → B) (P : B → Type 0) (names : List A) (c : ℕ) (y : B) → ((a : A) → P (f a)) → slice_get (map f names) c ≡ Some y → P y
at-map f P [] c y all at = absurd (none_some y at)
at-map f P (a ∷ names) zero y all at = subst P (some_same (f a) y at) (all a)
at-map f P (a ∷ names) (suc c) y all at = at-map f P names c y all at
