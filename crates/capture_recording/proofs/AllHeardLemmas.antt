-- All that was said was heard, and no other slave is met: one more of it, the end.
use Rattle.std.proofs.Common.{◌≡◌, ℕ, ◌∷◌, List, inr, set, slice_get, sym, subst, Some}
use Rattle.std.specs.declared.net.ip_addr.IpAddr.{IpAddr}
use Rattle.captured_samples.specs.Standing.{Told}
use Rattle.datagrams.specs.Waiting.{PartsOf, WholeOf}
use Rattle.capture_recording.specs.Slaves.{AllEnd, AllHeard, AllTalked, EachHeard, HearsTalk, MeetsOnly, SlavesOf}
use Rattle.capture_recording.specs.Talks.{IsTalk}
use Rattle.capture_recording.specs.declared.slave.Slave.{Slave}
use Rattle.capture_recording.specs.declared.talks.Talk.{Talk}
use Rattle.capture_recording.proofs.EachHeardLemmas.{heard-end, heard-more, heard-nobody, heard-unread, same-at}
use Rattle.capture_recording.proofs.SlavesLemmas.{met-along, same-addresses, talked-more}

module _ {K S : Type 0} (told : S → List Told → Type 0) (reads : K → IpAddr → Type 0) (first : K) where
  pub all-nobody : (said : List WholeOf) (x : SlavesOf K S) (d : WholeOf) → AllHeard told reads first said x
      → ((talk : Talk) → IsTalk x.port d talk → ⊥) → AllHeard told reads first (d ∷ said) x
  all-nobody said x d all none = record {
    each_heard = heard-nobody told reads first said x d all.each_heard none;
    talked = λ a met. inr (all.talked a met);
  }

  module _ (said : List WholeOf) (x y : SlavesOf K S) (d : WholeOf) (talk : Talk) (talked : AllTalked x.port x.slaves said)
      (each : EachHeard told reads first said y) (only : MeetsOnly talk.slave x.slaves y.slaves) (same : y.port ≡ x.port)
      (is : IsTalk y.port d talk) where
    talked-now : AllTalked y.port y.slaves (d ∷ said)
    talked-now =
        talked-more y.port x.slaves y.slaves said d talk
        (subst (λ (n : ℕ). AllTalked n x.slaves said) (sym same) talked) only is

    pub all-unread : (reads first talk.slave → ⊥) → AllHeard told reads first (d ∷ said) y
    all-unread unread = record {
      each_heard = heard-unread told reads first said y d talk each is unread;
      talked = talked-now;
    }

    pub all-more : (i : ℕ) (was now : Slave S) → slice_get y.slaves i ≡ Some was → was.address ≡ talk.slave
        → HearsTalk told d talk.is_of_master was now
        → AllHeard told reads first (d ∷ said) (record y { slaves = set y.slaves i now })
    all-more i was now at own hears = record {
      each_heard = heard-more told reads first said y d talk i was now each is at own hears;
      talked = λ a met. talked-now a
          (met-along (set y.slaves i now) y.slaves
          (λ j. sym (same-addresses y.slaves i was now at hears.address j)) a met);
    }

  pub all-end : (said : List WholeOf) (x : SlavesOf K S) (ys : List (Slave S)) → AllHeard told reads first said x
      → AllEnd x.slaves ys → AllHeard told reads first said (record x { slaves = ys })
  all-end said x ys all ends = record {
    each_heard = heard-end told reads first said x ys all.each_heard ends;
    talked = λ a met. all.talked a
        (met-along ys x.slaves (λ j. sym (same-at (slice_get x.slaves j) (slice_get ys j) (ends j))) a met);
  }

  -- what waits for other parts has no say in it
  pub all-beside : (said : List WholeOf) (x : SlavesOf K S) (parts : PartsOf) → AllHeard told reads first said x
      → AllHeard told reads first said (record x { parts = parts })
  all-beside said x parts all = record {
    each_heard = record {
      each = all.each_heard.each;
      heard = all.each_heard.heard;
      apart = all.each_heard.apart;
      read = all.each_heard.read;
      left = all.each_heard.left;
    };
    talked = all.talked;
  }
