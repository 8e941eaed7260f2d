-- A frame writer that was handed the packets of a sample.
use Rattle.std.proofs.Common.{◌≡◌, ℕ, ◌+◌, ◌*◌, ◌≤◌, List, [], ◌∷◌, ◌++◌, IfSome, Option, None, Some, length, refl, sym, ap, ◌∙◌, arith, append_assoc, length-append, drop, take}
use Rattle.std.proofs.lemmas.List.Elements.{All-head, All-tail}
use Rattle.xcp_base.specs.Packets.{ArePackets, IsPacket}
use Rattle.xcp_base.specs.declared.limits.TheConstants.{MAX_DTO}
use Rattle.frame_writer.specs.declared.layout.TheConstants.{MAX_SAMPLE_BYTES}
use Rattle.frame_writer.specs.Frame.{frame, text}
use Rattle.frame_writer.specs.Shown.{OutState, after_bytes}
use Rattle.frame_writer.specs.Writing.{AfterText, FailsWithinText, WriterState, after_text}
use Rattle.frame_writer.proofs.TextLemmas.{breaks_off-text, text-append, text-mod}
use Rattle.transmitter.specs.Inner.Places.{Lays}
use Rattle.transmitter.specs.Written.{BreaksWithin}

-- packets were sent, and then more
pub after_text-append : (a b c : WriterState) (ps qs : List (List ℕ)) → AfterText a b ps → AfterText b c qs → AfterText a c (ps ++ qs)
after_text-append a b c ps qs first more =
    let whole : text a.counter (ps ++ qs) ≡ text a.counter ps ++ text b.counter qs =
    text-append a.counter ps qs ∙ ap (λ t. text a.counter ps ++ t) (text-mod (a.counter + length ps) b.counter qs (sym first.counter)) in
    let contents : (a.out.contents ++ text a.counter ps) ++ text b.counter qs ≡ a.out.contents ++ text a.counter (ps ++ qs) =
    append_assoc a.out.contents (text a.counter ps) (text b.counter qs) ∙ ap (λ t. a.out.contents ++ t) (sym whole) in
    record {
      out = more.out ∙ (ap (λ (o : OutState). after_bytes o (text b.counter qs)) first.out ∙ ap (λ (xs : List ℕ). record a.out { contents = xs }) contents);
      counter = omega (arith, first.counter, more.counter, length-append ps qs);
      closed = more.closed ∙ first.closed;
    }

-- the packets were sent together
pub after_text-sent : (a b : WriterState) (qs : List (List ℕ)) → b ≡ after_text a qs → AfterText a b qs
after_text-sent a b qs is = rw is (record { out = refl; counter = omega arith; closed = refl })

-- the writer failed within one of the packets, and so within what is written of all
pub breaks_within : (a b : WriterState) (qs : List (List ℕ)) → FailsWithinText a b qs → BreaksWithin a b qs
breaks_within a b qs fails =
    let between : WriterState = after_text a fails.whole in
    record {
      out = breaks_off-text a between b fails.whole fails.torn fails.unsent qs (after_text-sent a between fails.whole refl) fails.fails fails.packets;
      was_open = fails.fails.was_open;
      closed = fails.fails.closed;
    }

-- frames have four bytes each, and more
long_text : (n : ℕ) (qs : List (List ℕ)) → 4 * length qs ≤ length (text n qs)
long_text n [] = omega arith
long_text n (q ∷ qs) = omega (arith, long_text (n + 1) qs, length-append (frame n q) (text (n + 1) qs))

-- frames that were laid out stand in the buffer
pub laid : (end : Option ℕ) (a b : WriterState) (old new : List ℕ) (at : ℕ) (qs : List (List ℕ)) → IfSome end (λ _. b ≡ after_text a qs) → IfSome end (λ e. take e new ≡ take at old ++ text a.counter qs) → IfSome end (λ e. e ≡ at + length (text a.counter qs))
    → IfSome end (λ e. e ≤ at + MAX_SAMPLE_BYTES) → IfSome end (λ e. drop e new ≡ drop e old) → length new ≡ length old → IfSome end (λ e. Lays a.out b.out old new at e × (at + 4 * length qs ≤ e))
laid None a b old new at qs sent front is few behind len = tt
laid (Some e) a b old new at qs sent front is few behind len = (
  record {
    text = text a.counter qs;
    wrote = ap (λ (w : WriterState). w.out.contents) sent;
    front = front;
    end_is = is;
    few = few;
    behind = behind;
    len = len;
  },
  omega (arith, is, long_text a.counter qs),
)

-- no frame is longer than this
pub short_text : (n : ℕ) (qs : List (List ℕ)) → ArePackets qs → length (text n qs) ≤ (4 + MAX_DTO) * length qs
short_text n [] each = omega arith
short_text n (q ∷ qs) each =
    let fits : length q ≤ MAX_DTO = (All-head IsPacket q qs each).fits in
    omega (arith, fits, short_text (n + 1) qs (All-tail IsPacket q qs each), length-append (frame n q) (text (n + 1) qs))
