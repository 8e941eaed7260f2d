-- Stops of lists at all event channels, and what ends behind them.
use Rattle.std.proofs.Common.{◌≡◌, ℕ, ◌<◌, ◌&&◌, not, true, false, List, refl, sym, ◌∙◌}
use Rattle.std.proofs.lemmas.Bool.{false≢true}
use Rattle.xcp_base.specs.Lists.{has_list}
use Rattle.xcp_base.specs.declared.limits.TheConstants.{MAX_LISTS}
use Rattle.slave_channels.specs.Channels.{ChannelState}
use Rattle.slave_channels.specs.Calls.{Ends, StopsAll}
use Rattle.slave_channels.specs.Each.{IsEach}
use Rattle.slave.specs.Inner.{Settles}

pub ends-there : (a m b : List ChannelState) (before now lists : ℕ) → ((l : ℕ) → l < MAX_LISTS → has_list lists l ≡ (has_list before l && not (has_list now l)))
    → IsEach (λ c. StopsAll lists) a m → ((l : ℕ) → l < MAX_LISTS → has_list now l ≡ false) → IsEach (λ c. Ends) m b → Settles a b before now
ends-there a m b before now lists are stops none ends = record {
  lists = lists;
  are = are;
  ends = true;
  yes = λ h. none;
  always = λ h. refl;
  stopped = m;
  stops = stops;
  goes_on = λ h. absurd (false≢true (sym h));
  ends_all = λ h. ends;
}

pub goes-there : (a m : List ChannelState) (before now lists : ℕ) → ((l : ℕ) → l < MAX_LISTS → has_list lists l ≡ (has_list before l && not (has_list now l)))
    → IsEach (λ c. StopsAll lists) a m → ((l : ℕ) × (l < MAX_LISTS) × (has_list now l ≡ true)) → Settles a m before now
goes-there a m before now lists are stops (l, below, some) = record {
  lists = lists;
  are = are;
  ends = false;
  yes = λ h. absurd (false≢true h);
  always = λ none. absurd (false≢true (sym (none l below) ∙ some));
  stopped = m;
  stops = stops;
  goes_on = λ h. refl;
  ends_all = λ h. absurd (false≢true h);
}
