-- What stands next, by the first bytes.
use Rattle.std.proofs.Common.{◌≡◌, ℕ, ◌<◌, ◌≤◌, Bool, true, false, nat_eq, if◌then◌else◌, Option, Some, None, List, ◌++◌, length, take, sym, ap, subst, ◌∙◌, arith, IfErr, Result}
use Rattle.std.proofs.lemmas.List.{length-take-le}
use Rattle.std.proofs.lemmas.Result.{err_from_is_err_and}
use Rattle.std.specs.Result.{IsErrAnd}
use Rattle.measured_values.specs.declared.byte_order.ByteOrder.{ByteOrder}
use Rattle.measured_values.specs.declared.byte_order.ByteOrder.TheVariants.{MsbFirst, MsbLast}
use Rattle.capture.specs.Blocks.{BYTE_ORDER_MAGIC, IsBlock, IsSectionHeader, SECTION_HEADER, begins_section, kind_of, order_told}
use Rattle.capture.specs.Inner.{BlockHas, DescribesOne, IsNoBlock, MayBegin, SaysNone}
use Rattle.capture.specs.Numbers.{field}
use Rattle.capture.specs.Packets.{PacketOf}
use Rattle.capture.specs.Pcap.{IsHeader}
use Rattle.capture.specs.Units.{BeginsSection, BeginsPcap, BeginsWith, GoesOn, IsNext, IsNextBlock, IsNextIn, Known, MeetsInterface, NextHas, RefusesStep, Says}
use Rattle.capture.specs.declared.capture_fault.CaptureFault.{CaptureFault}
use Rattle.capture.specs.declared.capture_fault.CaptureFault.TheVariants.{Bad, Long, ManyInterfaces, Memory, NoCapture}
use Rattle.capture.specs.declared.format.Format.{Format}
use Rattle.capture.specs.declared.format.Format.TheVariants.{Pcap, Pcapng}
use Rattle.capture.specs.declared.interface.Interface.{Interface}
use Rattle.capture.specs.declared.limits.TheConstants.{MAX_UNIT}
use Rattle.capture.specs.declared.pcap_header.PcapHeader.{PcapHeader}
use Rattle.capture.proofs.BlockLemmas.{block-is}
use Rattle.capture.proofs.FieldLemmas.{field-same, field-take, front-is}

-- a fault that is handed on is no other
pub handed-on : {T : Type 0} (r : Result T CaptureFault) (P : CaptureFault → Type 0) (fault : CaptureFault) → IsErrAnd r (λ f. f ≡ fault) → P fault → IfErr r P
handed-on r P fault on is =
    let p = err_from_is_err_and r on in
    subst (λ x. IfErr x P) (sym p.1) (subst P (sym p.2) is)

-- what stands first, or next in a section, isn't short
first-long : (is : Bool) (old : List Interface) (unit : List ℕ) (own : List PacketOf) (new : Known) → BeginsWith is old unit own new → 12 ≤ length unit
first-long true old unit own new b = b.block.long
first-long false old unit own new b = omega (arith, b.is.long)

block-long : (is : Bool) (order : ByteOrder) (old : List Interface) (unit : List ℕ) (own : List PacketOf) (new : Known)
    → IsNextBlock is order old unit own new → 12 ≤ length unit
block-long true order old unit own new b = b.block.long
block-long false order old unit own new b = b.block.long

unit-long : (format : Option Format) (old : List Interface) (unit : List ℕ) (own : List PacketOf) (new : Known) → MayBegin format
    → IsNextIn format old unit own new → 12 ≤ length unit
unit-long None old unit own new may next = first-long (begins_section unit) old unit own new next
unit-long (Some (Pcapng order)) old unit own new may next = block-long (begins_section unit) order old unit own new next
unit-long (Some (Pcap header)) old unit own new may next = absurd may

-- both are a section header, or neither; and they tell the same byte order
same-begin : (bytes more unit behind : List ℕ) → bytes ++ more ≡ unit ++ behind → 12 ≤ length bytes → 12 ≤ length unit
    → begins_section unit ≡ begins_section bytes
same-begin bytes more unit behind same head long =
    ap (λ n. nat_eq n SECTION_HEADER) (sym (field-same MsbLast 4 0 bytes more unit behind same (omega (arith, head)) (omega (arith, long))))

same-order : (bytes more unit behind : List ℕ) → bytes ++ more ≡ unit ++ behind → 12 ≤ length bytes → 12 ≤ length unit
    → order_told unit ≡ order_told bytes
same-order bytes more unit behind same head long =
    ap (λ n. if nat_eq n BYTE_ORDER_MAGIC then MsbFirst else MsbLast)
    (sym (field-same MsbFirst 4 8 bytes more unit behind same (omega (arith, head)) (omega (arith, long))))

-- a section begins
section-in : (format : Option Format) (old : List Interface) (unit : List ℕ) (own : List PacketOf) (new : Known) → MayBegin format
    → begins_section unit ≡ true → IsNextIn format old unit own new → BeginsSection unit own new
section-in None old unit own new may is next = subst (λ b. BeginsWith b old unit own new) is next
section-in (Some (Pcapng order)) old unit own new may is next = subst (λ b. IsNextBlock b order old unit own new) is next
section-in (Some (Pcap header)) old unit own new may is next = absurd may

module _ (old : Known) (bytes : List ℕ) (head : 12 ≤ length bytes) where
  -- where one begins in these bytes
  section-next : (more unit behind : List ℕ) (own : List PacketOf) (new : Known) → MayBegin old.format → begins_section bytes ≡ true
      → bytes ++ more ≡ unit ++ behind → IsNext old unit own new
      → IsBlock (order_told bytes) unit × IsSectionHeader (order_told bytes) unit
  section-next more unit behind own new may is same next =
      let long = unit-long old.format old.interfaces unit own new may next in
      let s = section-in old.format old.interfaces unit own new may (same-begin bytes more unit behind same head long ∙ is) next in
      let order = same-order bytes more unit behind same head long in
      (subst (λ o. IsBlock o unit) order s.block, subst (λ o. IsSectionHeader o unit) order s.header)

  -- where a section goes on
  going-next : (order : ByteOrder) (more unit behind : List ℕ) (own : List PacketOf) (new : Known) → old.format ≡ Some (Pcapng order)
      → begins_section bytes ≡ false → bytes ++ more ≡ unit ++ behind → IsNext old unit own new → GoesOn order old.interfaces unit own new
  going-next order more unit behind own new is not same next =
      let here = subst (λ f. IsNextIn f old.interfaces unit own new) is next in
      let long = block-long (begins_section unit) order old.interfaces unit own new here in
      subst (λ b. IsNextBlock b order old.interfaces unit own new) (same-begin bytes more unit behind same head long ∙ not) here

  -- the length of what stands next is that of the block
  pub section-has : (IsLen : ℕ → Type 0) (order : ByteOrder) → MayBegin old.format → begins_section bytes ≡ true → order ≡ order_told bytes
      → BlockHas IsLen order bytes → NextHas IsLen old bytes
  section-has IsLen order may is told has more unit behind own new same next =
      has more unit behind same (subst (λ o. IsBlock o unit) (sym told) (section-next more unit behind own new may is same next).0)

  pub going-has : (IsLen : ℕ → Type 0) (order : ByteOrder) → old.format ≡ Some (Pcapng order) → begins_section bytes ≡ false
      → BlockHas IsLen order bytes → NextHas IsLen old bytes
  going-has IsLen order is not has more unit behind own new same next =
      has more unit behind same (going-next order more unit behind own new is not same next).block

  -- what is no block isn't next
  pub section-refuses : (fault : CaptureFault) (order : ByteOrder) → MayBegin old.format → begins_section bytes ≡ true → order ≡ order_told bytes
      → IsNoBlock order bytes fault → RefusesStep old bytes fault
  section-refuses Long order may is told none = section-has (λ n. MAX_UNIT < n) order may is told none
  section-refuses Bad order may is told none = section-has (λ n. ⊥) order may is told none
  section-refuses NoCapture order may is told none = absurd none
  section-refuses ManyInterfaces order may is told none = absurd none
  section-refuses Memory order may is told none = absurd none

  pub going-refuses : (fault : CaptureFault) (order : ByteOrder) → old.format ≡ Some (Pcapng order) → begins_section bytes ≡ false
      → IsNoBlock order bytes fault → RefusesStep old bytes fault
  going-refuses Long order is not none = going-has (λ n. MAX_UNIT < n) order is not none
  going-refuses Bad order is not none = going-has (λ n. ⊥) order is not none
  going-refuses NoCapture order is not none = absurd none
  going-refuses ManyInterfaces order is not none = absurd none
  going-refuses Memory order is not none = absurd none

  -- the block is that whose length was read
  one-block : (order : ByteOrder) (len : ℕ) (more unit behind : List ℕ) → bytes ++ more ≡ unit ++ behind → IsBlock order unit → len ≤ length bytes
      → IsBlock order (take len bytes) → unit ≡ take len bytes
  one-block order len more unit behind same b within whole =
      let many = length-take-le len bytes within in
      let long : 12 ≤ len = omega (arith, whole.long, many) in
      block-is order bytes more unit behind len same head b
      (sym many ∙ sym whole.front ∙ field-take order 4 4 len bytes (omega (arith, long)) within) within

  -- it begins no section of version 1
  pub section-none : (order : ByteOrder) (len : ℕ) → MayBegin old.format → begins_section bytes ≡ true → order ≡ order_told bytes → len ≤ length bytes
      → IsBlock order (take len bytes) → (IsSectionHeader order (take len bytes) → ⊥) → NextHas (λ n. ⊥) old bytes
  section-none order len may is told within whole none more unit behind own new same next =
      let s = section-next more unit behind own new may is same next in
      let one = one-block order len more unit behind same (subst (λ o. IsBlock o unit) (sym told) s.0) within whole in
      none (subst (IsSectionHeader order) one (subst (λ o. IsSectionHeader o unit) (sym told) s.1))

  -- it describes an interface
  meets : (order : ByteOrder) (len : ℕ) → old.format ≡ Some (Pcapng order) → begins_section bytes ≡ false → len ≤ length bytes
      → IsBlock order (take len bytes) → DescribesOne (kind_of (field order 4 0 (take len bytes))) order (take len bytes) → MeetsInterface old bytes
  meets order len is not within whole one = record {
    order = order;
    within_section = is;
    goes_on = not;
    len = len;
    within = within;
    block = whole;
    kind = one.0;
    interface = one.1;
    is = one.2;
  }

  -- it says nothing
  pub going-none : (fault : CaptureFault) (order : ByteOrder) (len : ℕ) → old.format ≡ Some (Pcapng order) → begins_section bytes ≡ false
      → len ≤ length bytes → IsBlock order (take len bytes)
      → SaysNone (kind_of (field order 4 0 (take len bytes))) order old.interfaces (take len bytes) fault → RefusesStep old bytes fault
  going-none Bad order len is not within whole none = λ more unit behind own new same next.
      let g = going-next order more unit behind own new is not same next in
      let one = one-block order len more unit behind same g.block within whole in
      none own new.interfaces (subst (λ b. Says (kind_of (field order 4 0 b)) order old.interfaces b own new.interfaces) one g.says)
  going-none ManyInterfaces order len is not within whole none = (none.0, meets order len is not within whole none.1)
  going-none Memory order len is not within whole none = meets order len is not within whole none
  going-none Long order len is not within whole none = absurd none
  going-none NoCapture order len is not within whole none = absurd none

  -- no file of libpcap begins so
  pub header-none : old.format ≡ None → begins_section bytes ≡ false → 24 ≤ length bytes
      → ((h : PcapHeader) → IsHeader h (take 24 bytes) → ⊥) → NextHas (λ n. ⊥) old bytes
  header-none is not many none more unit behind own new same next =
      let here = subst (λ f. IsNextIn f old.interfaces unit own new) is next in
      let long = first-long (begins_section unit) old.interfaces unit own new here in
      let b : BeginsPcap old.interfaces unit own new =
      subst (λ x. BeginsWith x old.interfaces unit own new) (same-begin bytes more unit behind same head long ∙ not) here in
      let one : unit ≡ take 24 bytes =
      front-is bytes more unit behind same (omega (arith, b.is.long, many)) ∙ ap (λ n. take n bytes) b.is.long in
      none b.header (subst (IsHeader b.header) one b.is)
