-- A transmitter that took one item more.
use Rattle.std.proofs.Common.{◌≡◌, ℕ, ◌+◌, List, [], ◌∷◌, ◌++◌, length, Some, None, slice_index, refl, sym, ap, ◌∙◌, subst, arith, append_assoc, append-nil, length-append}
use Rattle.std.proofs.lemmas.List.Elements.{All-append}
use Rattle.xcp_base.specs.Samples.{SampleParts, MarkParts}
use Rattle.xcp_base.specs.Packets.{ArePackets, IsPacket}
use Rattle.xcp_base.specs.declared.item.Item.{Item}
use Rattle.xcp_base.specs.declared.item.Item.TheVariants.{Sample, Marker}
use Rattle.frame_writer.specs.Writing.{AfterText, WriterState}
use Rattle.transmitter.specs.Items.{count_of, packets_of, samples}
use Rattle.transmitter.specs.Merge.{Takes, items_taken}
use Rattle.transmitter.specs.Written.{BreaksWithin, HasTaken, HasWritten, TransmitterState}
use Rattle.transmitter.specs.Pumps.{Leads}
use Rattle.transmitter.proofs.TakenLemmas.{count_of-append, merge-takes, packets_of-push, samples-marker, samples-sample, takes-append}
use Rattle.transmitter.proofs.PacketLemmas.{after_text-append}

length-push : (ps : List (ℕ × Item)) (p : ℕ × Item) → length (ps ++ p ∷ []) ≡ length ps + 1
length-push ps p = length-append ps (p ∷ [])

-- where no sample is in hand, all samples that were taken were written whole
all_whole : (start : WriterState) (a : TransmitterState) (ps : List (ℕ × Item)) (t : HasTaken start a ps) → a.hand ≡ None → t.whole ≡ samples (items_taken ps)
all_whole start a ps t none =
    let same = rw none at t.samples in
    sym (append-nil t.whole) ∙ same

-- and their packets were sent
all_sent : (start : WriterState) (a : TransmitterState) (ps : List (ℕ × Item)) (t : HasTaken start a ps) → a.hand ≡ None → AfterText start a.writer (packets_of t.whole)
all_sent start a ps t none = subst (HasWritten start a.writer t.whole) none t.writes

-- a stop marker was taken
pub leads-marker : (a b : TransmitterState) (c : ℕ) (m : MarkParts) → a.hand ≡ None → b.hand ≡ None → b.rings ≡ a.rings → Takes a.received b.received a.known b.known ((c, Marker m) ∷ []) → b.taken ≡ a.taken + 1 → b.writer ≡ a.writer → b.written ≡ a.written → Leads a ((c, Marker m) ∷ []) b
leads-marker a b c m none hand rings takes taken writer written = record {
  rings = rings;
  takes = takes;
  taken = taken;
  stands = λ start ps t. record {
    was_open = t.was_open;
    merge = merge-takes a.received b.received a.known b.known ps ((c, Marker m) ∷ []) t.merge takes;
    taken = omega (arith, taken, t.taken, length-push ps (c, Marker m));
    last = rw hand tt;
    whole = t.whole;
    samples = rw (hand, samples-marker ps c m) (append-nil t.whole ∙ all_whole start a ps t none);
    legal = t.legal;
    writes = rw (hand, writer) (all_sent start a ps t none);
    written = λ l. rw written (t.written l);
  };
}

-- a sample was taken and written whole
pub leads-sample : (a b : TransmitterState) (c : ℕ) (r : SampleParts) → a.hand ≡ None → b.hand ≡ None → b.rings ≡ a.rings → Takes a.received b.received a.known b.known ((c, Sample r) ∷ []) → b.taken ≡ a.taken + 1 → AfterText a.writer b.writer r.packets → ArePackets r.packets → ((l : ℕ) → slice_index b.written l ≡ slice_index a.written l + count_of l (r ∷ [])) → Leads a ((c, Sample r) ∷ []) b
leads-sample a b c r none hand rings takes taken sent legal written = record {
  rings = rings;
  takes = takes;
  taken = taken;
  stands = λ start ps t.
      let more = packets_of-push t.whole r in
      record {
        was_open = t.was_open;
        merge = merge-takes a.received b.received a.known b.known ps ((c, Sample r) ∷ []) t.merge takes;
        taken = omega (arith, taken, t.taken, length-push ps (c, Sample r));
        last = rw hand tt;
        whole = t.whole ++ r ∷ [];
        samples = rw (hand, samples-sample ps c r) (append-nil (t.whole ++ r ∷ []) ∙ ap (λ ss. ss ++ r ∷ []) (all_whole start a ps t none));
        legal = subst ArePackets (sym more) (All-append IsPacket (packets_of t.whole) r.packets t.legal legal);
        writes = rw hand (subst (AfterText start b.writer) (sym more) (after_text-append start a.writer b.writer (packets_of t.whole) r.packets (all_sent start a ps t none) sent));
        written = λ l. written l ∙ (ap (λ k. k + count_of l (r ∷ [])) (t.written l) ∙ sym (count_of-append l t.whole (r ∷ [])));
      };
}

-- a sample was taken, and the writer failed within its packets
pub leads-broken : (a b : TransmitterState) (c : ℕ) (r : SampleParts) → a.hand ≡ None → b.hand ≡ Some r → b.rings ≡ a.rings → Takes a.received b.received a.known b.known ((c, Sample r) ∷ []) → b.taken ≡ a.taken + 1 → BreaksWithin a.writer b.writer r.packets → b.written ≡ a.written → Leads a ((c, Sample r) ∷ []) b
leads-broken a b c r none hand rings takes taken breaks written = record {
  rings = rings;
  takes = takes;
  taken = taken;
  stands = λ start ps t. record {
    was_open = t.was_open;
    merge = merge-takes a.received b.received a.known b.known ps ((c, Sample r) ∷ []) t.merge takes;
    taken = omega (arith, taken, t.taken, length-push ps (c, Sample r));
    last = rw hand (c, ps, refl);
    whole = t.whole;
    samples = rw (hand, samples-sample ps c r) (ap (λ ss. ss ++ r ∷ []) (all_whole start a ps t none));
    legal = t.legal;
    writes = rw hand (a.writer, all_sent start a ps t none, breaks);
    written = λ l. rw written (t.written l);
  };
}

-- nothing was taken, and nothing changed but that less may be known of what isn't there
pub leads-none : (a b : TransmitterState) → b.rings ≡ a.rings → Takes a.received b.received a.known b.known [] → b.taken ≡ a.taken → b.writer ≡ a.writer → b.hand ≡ a.hand → b.written ≡ a.written → Leads a [] b
leads-none a b rings takes taken writer hand written = record {
  rings = rings;
  takes = takes;
  taken = omega (arith, taken);
  stands = λ start ps t. record {
    was_open = t.was_open;
    merge = merge-takes a.received b.received a.known b.known ps [] t.merge takes;
    taken = rw (append-nil ps) (taken ∙ t.taken);
    last = rw (hand, append-nil ps) t.last;
    whole = t.whole;
    samples = rw (hand, append-nil ps) t.samples;
    legal = t.legal;
    writes = rw (writer, hand) t.writes;
    written = λ l. rw written (t.written l);
  };
}

-- items were taken, and then more
pub leads-append : (a b d : TransmitterState) (qs rs : List (ℕ × Item)) → Leads a qs b → Leads b rs d → Leads a (qs ++ rs) d
leads-append a b d qs rs f g = record {
  rings = g.rings ∙ f.rings;
  takes = takes-append a.received b.received d.received a.known b.known d.known qs rs f.takes g.takes;
  taken = omega (arith, f.taken, g.taken, length-append qs rs);
  stands = λ start ps t. rw (← append_assoc ps qs rs) (g.stands start (ps ++ qs) (f.stands start ps t));
}

-- what it leads to doesn't depend on the ring at which pumps that fill a buffer go on
pub leads-next : (a b : TransmitterState) (qs : List (ℕ × Item)) (n : ℕ) → Leads a qs b → Leads a qs (record b { next = n })
leads-next a b qs n l = record {
  rings = l.rings;
  takes = l.takes;
  taken = l.taken;
  stands = λ start ps t.
      let s = l.stands start ps t in
      record {
        was_open = s.was_open;
        merge = s.merge;
        taken = s.taken;
        last = s.last;
        whole = s.whole;
        samples = s.samples;
        legal = s.legal;
        writes = s.writes;
        written = s.written;
      };
}
