use Rattle.std.specs.Prelude.{◌≡◌, ℕ, ◌-◌, max, List}
use Rattle.slave_channels.specs.Accounts.{Entry, HasEntries}
use Rattle.slave_channels.proofs.account.Account.reach.Given as goal

-- it is not past the end, or as it was; and it has what it had
abbrev pub invariant-loop-self : goal.invariant-loop-self
invariant-loop-self l = record {
  within : max l.self.end l.end ≡ max l.fn.self.end l.end;
  keeps :
      (entries : List Entry) (unsent : ℕ → ℕ → ℕ) → HasEntries (record { lists = l.fn.self.lists; end = l.fn.self.end }) entries unsent
      → HasEntries (record { lists = l.self.lists; end = l.self.end }) entries unsent;
}

abbrev pub decreases-loop-self : goal.decreases-loop-self
decreases-loop-self l = l.end - l.self.end
