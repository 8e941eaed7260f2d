-- What stands next leads on what a reader stands after.
use Rattle.std.proofs.Common.{◌≡◌, ℕ, Bool, true, false, cond, nat_eq, if◌then◌else◌, ◌||◌, Option, Some, None, List, [], ◌∷◌, ◌++◌, map, filter, take, refl, sym, ap, subst, ◌∙◌, append-nil, append_assoc, true≢false}
use Rattle.std.specs.List.{AllByRecursion, concat, list_any}
use Rattle.std.proofs.Math.Bool.{or-false}
use Rattle.std.proofs.lemmas.List.{map-append}
use Rattle.std.proofs.lemmas.List.Folds.{concat-append, list_any-append}
use Rattle.std.proofs.lemmas.List.Elements.{filter-append}
use Rattle.measured_values.specs.declared.byte_order.ByteOrder.{ByteOrder}
use Rattle.capture.specs.Blocks.{IsBlock, IsInterface, SECTION_HEADER, begins_section, kind_of, order_told}
use Rattle.capture.specs.Numbers.{field}
use Rattle.capture.specs.Packets.{PacketOf, packet_of}
use Rattle.capture.specs.Pcap.{IsRecord, record_packet}
use Rattle.capture.specs.Standing.{AreBehind, AreInterfaces, ArePcap, ArePcapng, HasInterfaces, IsBehind, LeadsOn, StandsAfter, StandsIn, describes, order_in, section_of}
use Rattle.capture.specs.Units.{BeginsWith, IsNext, IsNextBlock, IsNextIn, Known, Says, Steps}
use Rattle.capture.specs.declared.block_kind.BlockKind.{BlockKind}
use Rattle.capture.specs.declared.block_kind.BlockKind.TheVariants.{EnhancedPacket, InterfaceDescription, Other, SectionHeader, SimplePacket}
use Rattle.capture.specs.declared.format.Format.{Format}
use Rattle.capture.specs.declared.format.Format.TheVariants.{Pcap, Pcapng}
use Rattle.capture.specs.declared.interface.Interface.{Interface}
use Rattle.capture.specs.declared.pcap_header.PcapHeader.{PcapHeader}
use Rattle.capture.specs.declared.step.Step.{Step}
use Rattle.capture.specs.declared.step.Step.TheVariants.{Packet, Passed, Wants}

or-true : (x : Bool) → (x || true) ≡ true
or-true true = refl
or-true false = refl

-- a block more, which begins a section or doesn't
any-true : (bs : List (List ℕ)) (b : List ℕ) → begins_section b ≡ true → list_any begins_section (bs ++ b ∷ []) ≡ true
any-true bs b is =
    list_any-append begins_section bs (b ∷ []) ∙ ap (λ x. list_any begins_section bs || (x || false)) is ∙ or-true (list_any begins_section bs)

any-same : (bs : List (List ℕ)) (b : List ℕ) → begins_section b ≡ false → list_any begins_section (bs ++ b ∷ []) ≡ list_any begins_section bs
any-same bs b not =
    list_any-append begins_section bs (b ∷ []) ∙ ap (λ x. list_any begins_section bs || (x || false)) not ∙ or-false (list_any begins_section bs)

-- a section header begins the last section
section-new : (bs : List (List ℕ)) (b : List ℕ) → begins_section b ≡ true → section_of (bs ++ b ∷ []) ≡ b ∷ []
section-new [] b is = refl
section-new (c ∷ bs) b is = ap (λ x. if x then section_of (bs ++ b ∷ []) else c ∷ (bs ++ b ∷ [])) (any-true bs b is) ∙ section-new bs b is

-- another block goes on with it
section-of-more : (x : Bool) (bs : List (List ℕ)) (b c : List ℕ) → section_of (bs ++ b ∷ []) ≡ section_of bs ++ b ∷ []
    → (if x then section_of (bs ++ b ∷ []) else c ∷ (bs ++ b ∷ [])) ≡ (if x then section_of bs else c ∷ bs) ++ b ∷ []
section-of-more true bs b c same = same
section-of-more false bs b c same = refl

section-more : (bs : List (List ℕ)) (b : List ℕ) → begins_section b ≡ false → section_of (bs ++ b ∷ []) ≡ section_of bs ++ b ∷ []
section-more [] b not = refl
section-more (c ∷ bs) b not =
    ap (λ x. if x then section_of (bs ++ b ∷ []) else c ∷ (bs ++ b ∷ [])) (any-same bs b not)
    ∙ section-of-more (list_any begins_section bs) bs b c (section-more bs b not)

-- it has a first block
abbrev HasFirst : List (List ℕ) → Type 0
HasFirst bs = (b : List ℕ) × (rest : List (List ℕ)) × (bs ≡ b ∷ rest)

first-by : (x : Bool) (b : List ℕ) (bs : List (List ℕ)) → (x ≡ true → HasFirst (section_of bs)) → HasFirst (if x then section_of bs else b ∷ bs)
first-by true b bs later = later refl
first-by false b bs later = (b, bs, refl)

section-first : (b : List ℕ) (bs : List (List ℕ)) → HasFirst (section_of (b ∷ bs))
section-first b [] = first-by false b [] (λ is. absurd (true≢false (sym is)))
section-first b (c ∷ bs) = first-by (list_any begins_section (c ∷ bs)) b (c ∷ bs) (λ is. section-first c bs)

-- an interface more is described
described-more : (order : ByteOrder) (bs : List (List ℕ)) (is : List Interface) (b : List ℕ) (i : Interface) → AreInterfaces order bs is
    → IsInterface order b i → AreInterfaces order (bs ++ b ∷ []) (is ++ i ∷ [])
described-more order [] is b i none one = subst (λ xs. AreInterfaces order (b ∷ []) (xs ++ i ∷ [])) (sym none) (one, refl)
described-more order (c ∷ bs) [] b i are one = absurd are
described-more order (c ∷ bs) (j ∷ is) b i are one = (are.0, described-more order bs is b i are.1 one)

-- a kind by whether the type is one of these
by-type : Bool → Bool → Bool → Bool → BlockKind
by-type a d c e =
    if a then SectionHeader
    else if d then InterfaceDescription
    else if c then SimplePacket
    else if e then EnhancedPacket
    else Other

said-by : (a d c e : Bool) (order : ByteOrder) (bs : List (List ℕ)) (b : List ℕ) (own : List PacketOf) (old new : List Interface)
    → AreInterfaces order bs old → Says (by-type a d c e) order old b own new → AreInterfaces order (bs ++ cond d (b ∷ []) []) new
unfolding by-type
said-by true d c e order bs b own old new are says = absurd says
said-by false true c e order bs b own old new are says =
    subst (AreInterfaces order (bs ++ b ∷ [])) (sym says.2) (described-more order bs old b says.0 are says.3)
said-by false false true e order bs b own old new are says =
    subst (λ xs. AreInterfaces order xs new) (sym (append-nil bs)) (subst (AreInterfaces order bs) (sym says.3) are)
said-by false false false true order bs b own old new are says =
    subst (λ xs. AreInterfaces order xs new) (sym (append-nil bs)) (subst (AreInterfaces order bs) (sym says.3) are)
said-by false false false false order bs b own old new are says =
    subst (λ xs. AreInterfaces order xs new) (sym (append-nil bs)) (subst (AreInterfaces order bs) (sym says.1) are)

has-more : (h : List ℕ) (rest : List (List ℕ)) (b : List ℕ) (own : List PacketOf) (old new : List Interface) → HasInterfaces (h ∷ rest) old
    → Says (kind_of (field (order_told h) 4 0 b)) (order_told h) old b own new → HasInterfaces ((h ∷ rest) ++ b ∷ []) new
unfolding by-type
has-more h rest b own old new has says =
    let o = order_told h in
    let type = field o 4 0 b in
    subst (λ xs. AreInterfaces o xs new) (sym (filter-append (describes o) rest (b ∷ [])))
    (said-by (nat_eq type SECTION_HEADER) (nat_eq type 1) (nat_eq type 3) (nat_eq type 6) o (filter (describes o) rest) b own old new has says)

-- one block more stands behind
behind-more : (before bs : List (List ℕ)) (b : List ℕ) (packets own : List PacketOf) → AreBehind before bs packets
    → IsBehind (begins_section b) (before ++ bs) b own → AreBehind before (bs ++ b ∷ []) (packets ++ own)
behind-more before [] b packets own none is = (
  own,
  [],
  ap (λ xs. xs ++ own) none ∙ sym (append-nil own),
  subst (λ xs. IsBehind (begins_section b) xs b own) (append-nil before) is,
  refl,
)
behind-more before (c ∷ bs) b packets own are is = (
  are.0,
  are.1 ++ own,
  ap (λ xs. xs ++ own) are.2 ∙ append_assoc are.0 are.1 own,
  are.3,
  behind-more (before ++ c ∷ []) bs b are.1 own are.4 (subst (λ xs. IsBehind (begins_section b) xs b own) (sym (append_assoc before (c ∷ []) bs)) is),
)

all-more : (P : List ℕ → Type 0) (bs : List (List ℕ)) (b : List ℕ) → AllByRecursion P bs → P b → AllByRecursion P (bs ++ b ∷ [])
all-more P [] b all is = (is, tt)
all-more P (c ∷ bs) b all is = (all.0, all-more P bs b all.1 is)

concat-more : (bs : List (List ℕ)) (b : List ℕ) → concat bs ++ b ≡ concat (bs ++ b ∷ [])
concat-more bs b = sym (concat-append bs (b ∷ []) ∙ ap (λ xs. concat bs ++ xs) (append-nil b))

-- what it leads to is what is known then
known : (k new : Known) (bytes : List ℕ) (packets : List PacketOf) → new ≡ k → StandsIn k.format k.interfaces bytes packets
    → StandsIn new.format new.interfaces bytes packets
known k new bytes packets same stands = subst (λ (it : Known). StandsIn it.format it.interfaces bytes packets) (sym same) stands

module _ (old : List Interface) (unit : List ℕ) (own : List PacketOf) (new : Known) (bytes : List ℕ) (packets : List PacketOf) where
  -- the first header
  first-leads : (is : Bool) → begins_section unit ≡ is → BeginsWith is old unit own new → bytes ≡ [] → packets ≡ []
      → StandsIn new.format new.interfaces (bytes ++ unit) (packets ++ own)
  first-leads true is b empty none = known _ new _ _ b.now (record {
    first = unit;
    blocks = [];
    whole = ap (λ xs. xs ++ unit) empty ∙ sym (append-nil unit);
    begins = is;
    are = (
      own,
      [],
      ap (λ xs. xs ++ own) none ∙ sym (append-nil own),
      subst (λ x. IsBehind x [] unit own) (sym is) (record { block = b.block; header = b.header; none = b.none }),
      refl,
    );
    told = refl;
    has = refl;
  })
  first-leads false is b empty none = known _ new _ _ b.now (record {
    head = unit;
    records = [];
    whole = ap (λ xs. xs ++ unit) empty ∙ sym (append-nil unit);
    header = b.is;
    are = tt;
    each = ap (λ xs. xs ++ own) none ∙ b.none;
  })

  -- a record
  record-leads : (h : PcapHeader) → IsRecord h unit → own ≡ record_packet h unit ∷ [] → new ≡ record { format = Some (Pcap h); interfaces = old }
      → ArePcap h bytes packets → StandsIn new.format new.interfaces (bytes ++ unit) (packets ++ own)
  record-leads h r one same a = known _ new _ _ same (record {
    head = a.head;
    records = a.records ++ unit ∷ [];
    whole =
        ap (λ xs. xs ++ unit) a.whole ∙ append_assoc a.head (concat a.records) unit
        ∙ ap (λ xs. a.head ++ xs) (concat-more a.records unit);
    header = a.header;
    are = all-more (IsRecord h) a.records unit a.are r;
    each =
        ap (λ xs. xs ++ own) a.each ∙ ap (λ xs. map (record_packet h) a.records ++ xs) one
        ∙ sym (map-append (record_packet h) a.records (unit ∷ []));
  })

  -- a block
  block-leads : (is : Bool) (order : ByteOrder) → begins_section unit ≡ is → IsNextBlock is order old unit own new
      → ArePcapng order old bytes packets → StandsIn new.format new.interfaces (bytes ++ unit) (packets ++ own)
  block-leads true order is b a =
      let new-section = section-new (a.first ∷ a.blocks) unit is in
      known _ new _ _ b.now (record {
        first = a.first;
        blocks = a.blocks ++ unit ∷ [];
        whole = ap (λ xs. xs ++ unit) a.whole ∙ concat-more (a.first ∷ a.blocks) unit;
        begins = a.begins;
        are = behind-more [] (a.first ∷ a.blocks) unit packets own a.are
            (subst (λ x. IsBehind x (a.first ∷ a.blocks) unit own) (sym is) (record { block = b.block; header = b.header; none = b.none }));
        told = ap order_in new-section;
        has = subst (λ s. HasInterfaces s []) (sym new-section) refl;
      })
  block-leads false order not g a =
      let section = section_of (a.first ∷ a.blocks) in
      let more = section-more (a.first ∷ a.blocks) unit not in
      let some = section-first a.first a.blocks in
      let same : order ≡ order_told some.0 = sym a.told ∙ ap order_in some.2 in
      let later = ap (λ bs. bs ++ unit ∷ []) some.2 in
      subst (λ f. StandsIn f new.interfaces (bytes ++ unit) (packets ++ own)) (sym g.format) (record {
        first = a.first;
        blocks = a.blocks ++ unit ∷ [];
        whole = ap (λ xs. xs ++ unit) a.whole ∙ concat-more (a.first ∷ a.blocks) unit;
        begins = a.begins;
        are = behind-more [] (a.first ∷ a.blocks) unit packets own a.are
            (subst (λ x. IsBehind x (a.first ∷ a.blocks) unit own) (sym not) (record {
              block = subst (λ o. IsBlock o unit) (sym a.told) g.block;
              interfaces = old;
              has = a.has;
              later = new.interfaces;
              says = subst (λ o. Says (kind_of (field o 4 0 unit)) o old unit own new.interfaces) (sym a.told) g.says;
            }));
        told = ap order_in (more ∙ later) ∙ sym same;
        has = subst (λ s. HasInterfaces s new.interfaces) (sym (more ∙ later))
            (has-more some.0 some.1 unit own old new.interfaces (subst (λ s. HasInterfaces s old) some.2 a.has)
            (subst (λ o. Says (kind_of (field o 4 0 unit)) o old unit own new.interfaces) same g.says));
      })

leads-in : (format : Option Format) (old : List Interface) (unit : List ℕ) (own : List PacketOf) (new : Known) (bytes : List ℕ) (packets : List PacketOf)
    → IsNextIn format old unit own new → StandsIn format old bytes packets → StandsIn new.format new.interfaces (bytes ++ unit) (packets ++ own)
leads-in None old unit own new bytes packets next stands =
    first-leads old unit own new bytes packets (begins_section unit) refl next stands.0 stands.1
leads-in (Some (Pcap h)) old unit own new bytes packets next stands = record-leads old unit own new bytes packets h next.0 next.1 next.2 stands
leads-in (Some (Pcapng order)) old unit own new bytes packets next stands =
    block-leads old unit own new bytes packets (begins_section unit) order refl next stands

-- what stands next leads on
pub leads : (old new : Known) (unit : List ℕ) (own : List PacketOf) → IsNext old unit own new → (bytes : List ℕ) (packets : List PacketOf)
    → StandsAfter old bytes packets → StandsAfter new (bytes ++ unit) (packets ++ own)
leads old new unit own next bytes packets stands = leads-in old.format old.interfaces unit own new bytes packets next stands

-- and so does each step
pub steps-lead : (old new : Known) (bytes : List ℕ) (step : Step) → Steps old new bytes step → LeadsOn old new bytes step
steps-lead old new bytes (Packet n p) s before packets stands = leads old new (take n bytes) (packet_of p ∷ []) s.2 before packets stands
steps-lead old new bytes (Passed n) s before packets stands = leads old new (take n bytes) [] s.2 before packets stands
steps-lead old new bytes (Wants n) s before packets stands =
    subst (λ k. StandsAfter k (before ++ []) (packets ++ [])) (sym s.2) (
    subst (λ bs. StandsAfter old bs (packets ++ [])) (sym (append-nil before)) (
    subst (StandsAfter old before) (sym (append-nil packets)) stands))
