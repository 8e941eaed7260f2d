-- The channels of columns, one behind another.
use Rattle.std.proofs.Common.{◌≡◌, ℕ, zero, suc, Some, None, ◌+◌, ◌<◌, ◌≤◌, List, [], ◌∷◌, ◌++◌}
use Rattle.std.proofs.Common.{◌∙◌, drop, length, take, get_or}
use Rattle.std.proofs.Common.{refl, sym, ap, subst, arith, append_assoc, append-nil}
use Rattle.std.proofs.Common.{length-take}
use Rattle.std.proofs.lemmas.List.{take_all, take_more}
use Rattle.std.specs.Prelude.{slice_get}
use Rattle.mdf_blocks.specs.Told.{ToldChannel}
use Rattle.mdf_blocks.specs.declared.value_place.ValuePlace.{ValuePlace}
use Rattle.mdf_groups.specs.Channels.{AddsChannels, AreChannels, AreColumnChannels}
use Rattle.mdf_groups.specs.Channels.{IsColumnChannel, front_channels, front_names}
use Rattle.mdf_groups.specs.Channels.{wanted_names}
use Rattle.mdf_groups.specs.Laws.{place_of}
use Rattle.mdf_groups.specs.Names.{AreNames}
use Rattle.mdf_groups.specs.Records.{FormOf}
use Rattle.mdf_groups.specs.declared.front.Front.{Front}
use Rattle.mdf_groups.specs.declared.front.Front.TheVariants as front
use Rattle.mdf_groups.specs.declared.placed_column.PlacedColumn.{PlacedColumn}

-- one column more
columns_more : (cs : List PlacedColumn) (ps : List ValuePlace) (ns : List (List ℕ))
    (ts : List ToldChannel) (c : PlacedColumn) (p : ValuePlace) (n : List ℕ) (t : ToldChannel)
    → length ps ≡ length cs → length ns ≡ length cs → AreColumnChannels cs ps ns ts
    → IsColumnChannel c.column p n t
    → AreColumnChannels (cs ++ c ∷ []) (ps ++ p ∷ []) (ns ++ n ∷ []) (ts ++ t ∷ [])
columns_more [] [] [] ts c p n t as_many named are is =
    subst (λ (us : List ToldChannel).
    AreColumnChannels (c ∷ []) (p ∷ []) (n ∷ []) (us ++ t ∷ [])) (sym are) (is, refl)
columns_more [] (q ∷ ps) ns ts c p n t as_many named are is = absurd (omega (arith, as_many))
columns_more [] [] (m ∷ ns) ts c p n t as_many named are is = absurd (omega (arith, named))
columns_more (d ∷ cs) [] ns ts c p n t as_many named are is = absurd are
columns_more (d ∷ cs) (q ∷ ps) [] ts c p n t as_many named are is = absurd are
columns_more (d ∷ cs) (q ∷ ps) (m ∷ ns) [] c p n t as_many named are is = absurd are
columns_more (d ∷ cs) (q ∷ ps) (m ∷ ns) (u ∷ ts) c p n t as_many named are is = (
  are.0,
  columns_more cs ps ns ts c p n t (omega (arith, as_many)) (omega (arith, named)) are.1 is,
)

-- a loop's step
pub channels_more : (cs : List PlacedColumn) (ps : List ValuePlace) (ns : List (List ℕ)) (i : ℕ)
    (old now new : List ToldChannel) (c e : PlacedColumn) (p d : ValuePlace) (n : List ℕ)
    (t : ToldChannel) → length ps ≡ length cs → length ns ≡ length cs → i < length cs
    → c ≡ get_or cs i e → p ≡ get_or ps i d → n ≡ get_or ns i n
    → AddsChannels (take i cs) (take i ps) (take i ns) old now → IsColumnChannel c.column p n t
    → new ≡ now ++ t ∷ []
    → AddsChannels (take (i + 1) cs) (take (i + 1) ps) (take (i + 1) ns) old new
channels_more cs ps ns i old now new c e p d n t as_many named within c_is p_is n_is adds is
    longer =
    let cs_more : take (i + 1) cs ≡ take i cs ++ c ∷ [] =
    take_more cs i e within ∙ ap (λ (x : PlacedColumn). take i cs ++ x ∷ []) (sym c_is) in
    let ps_more : take (i + 1) ps ≡ take i ps ++ p ∷ [] =
    take_more ps i d (omega (arith, as_many, within))
    ∙ ap (λ (x : ValuePlace). take i ps ++ x ∷ []) (sym p_is) in
    let ns_more : take (i + 1) ns ≡ take i ns ++ n ∷ [] =
    take_more ns i n (omega (arith, named, within))
    ∙ ap (λ (x : List ℕ). take i ns ++ x ∷ []) (sym n_is) in
    rw (cs_more, ps_more, ns_more) (
      adds.0 ++ t ∷ [],
      longer ∙ ap (λ (ts : List ToldChannel). ts ++ t ∷ []) adds.1
          ∙ append_assoc old adds.0 (t ∷ []),
      columns_more (take i cs) (take i ps) (take i ns) adds.0 c p n t
          (omega (arith, as_many, length-take i ps, length-take i cs))
          (omega (arith, named, length-take i ns, length-take i cs)) adds.2 is,
    )

-- none yet
pub no_channels : (ps : List ValuePlace) (ns : List (List ℕ)) (old : List ToldChannel)
    → AddsChannels [] ps ns old old
no_channels ps ns old = ([], sym (append-nil old), refl)

-- all of them
pub all_channels : (cs : List PlacedColumn) (ps : List ValuePlace) (ns : List (List ℕ)) (i : ℕ)
    (old new : List ToldChannel) → length ps ≡ length cs → length ns ≡ length cs
    → length cs ≤ i → AddsChannels (take i cs) (take i ps) (take i ns) old new
    → AddsChannels cs ps ns old new
all_channels cs ps ns i old new as_many named end adds =
    subst (λ (x : List PlacedColumn). AddsChannels x ps ns old new) (take_all i cs end)
    (subst (λ (x : List ValuePlace). AddsChannels (take i cs) x ns old new)
    (take_all i ps (omega (arith, as_many, end)))
    (subst (λ (x : List (List ℕ)). AddsChannels (take i cs) (take i ps) x old new)
    (take_all i ns (omega (arith, named, end))) adds))

-- the channels of a group
pub channels_are : (form : FormOf) (columns : List PlacedColumn) (all : List (List ℕ))
    (f f2 : Front) (ps : List ValuePlace) (ns bs : List (List ℕ)) (fronts new : List ToldChannel)
    → f ≡ form.front → AreNames (wanted_names f columns) all → f2 ≡ form.front
    → fronts ≡ front_channels f2 bs → bs ≡ drop (length columns) all → ps ≡ form.places
    → ns ≡ take (length columns) all → AddsChannels columns ps ns fronts new
    → AreChannels form columns new
channels_are form columns all f f2 ps ns bs fronts new f_is are f2_is fronts_are bs_are ps_are
    ns_are adds = record {
      names = all;
      are_names = subst (λ (x : Front). AreNames (wanted_names x columns) all) f_is are;
      adds = subst (λ (x : List ValuePlace). AddsChannels columns x (take (length columns) all)
          (front_channels form.front (drop (length columns) all)) new) ps_are
          (subst (λ (x : List (List ℕ)). AddsChannels columns ps x
          (front_channels form.front (drop (length columns) all)) new) ns_are
          (subst (λ (x : List ToldChannel). AddsChannels columns ps ns x new)
          (fronts_are ∙ ap (λ (x : Front). front_channels x bs) f2_is
          ∙ ap (front_channels form.front) bs_are) adds));
    }

-- the place of a column and its channel
pub record HasChannel (ps : List ValuePlace) (i : ℕ) (t : ToldChannel) : Type 0 where
  pub place : ValuePlace
  pub there : slice_get ps i ≡ Some place
  pub same : place_of t ≡ place

channel_place : (cs : List PlacedColumn) (ps : List ValuePlace) (ns : List (List ℕ))
    (ts : List ToldChannel) (i : ℕ) (t : ToldChannel) → AreColumnChannels cs ps ns ts
    → slice_get ts i ≡ Some t → HasChannel ps i t
channel_place [] ps ns ts i t are at =
    let none : None ≡ Some t = sym (ap (λ (us : List ToldChannel). slice_get us i) are) ∙ at in
    absurd cc
channel_place (c ∷ cs) [] ns ts i t are at = absurd are
channel_place (c ∷ cs) (p ∷ ps) [] ts i t are at = absurd are
channel_place (c ∷ cs) (p ∷ ps) (n ∷ ns) [] i t are at = absurd are
channel_place (c ∷ cs) (p ∷ ps) (n ∷ ns) (u ∷ ts) zero t are at =
    let some : Some u ≡ Some t = at in
    let same : u ≡ t = cc in
    record { place = p; there = refl; same = ap place_of (sym same ∙ are.0.2) }
channel_place (c ∷ cs) (p ∷ ps) (n ∷ ns) (u ∷ ts) (suc i) t are at =
    let rest = channel_place cs ps ns ts i t are.1 at in
    record { place = rest.place; there = rest.there; same = rest.same }

behind : (us ts : List ToldChannel) (i : ℕ)
    → slice_get (us ++ ts) (length us + i) ≡ slice_get ts i
behind [] ts i =
    let none : 0 + i ≡ i = omega arith in
    ap (slice_get ts) none
behind (u ∷ us) ts i =
    let step : length (u ∷ us) + i ≡ suc (length us + i) = omega arith in
    ap (slice_get ((u ∷ us) ++ ts)) step ∙ behind us ts i

front_count : (f : Front) (names : List (List ℕ))
    → length (front_channels f names) ≡ length (front_names f)
front_count front.Seconds names = refl
front_count front.Ticks names = refl
front_count front.Nothing names = refl

-- the channel of a column has the place of its values
pub channel_of : (form : FormOf) (columns : List PlacedColumn) (channels : List ToldChannel)
    (i : ℕ) (t : ToldChannel) → AreChannels form columns channels
    → slice_get channels (length (front_names form.front) + i) ≡ Some t
    → HasChannel form.places i t
channel_of form columns channels i t are at =
    let names : List (List ℕ) = drop (length columns) are.names in
    let fronts : List ToldChannel = front_channels form.front names in
    let more : List ToldChannel = are.adds.0 in
    channel_place columns form.places (take (length columns) are.names) more i t are.adds.2
    (sym (behind fronts more i)
    ∙ ap (λ k. slice_get (fronts ++ more) (k + i)) (front_count form.front names)
    ∙ ap (λ (us : List ToldChannel). slice_get us (length (front_names form.front) + i))
    (sym are.adds.1) ∙ at)
