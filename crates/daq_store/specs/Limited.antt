-- The limits that a store is made with.
use Rattle.std.specs.Prelude.{ℕ, ◌≤◌, ◌&&◌, Bool, nat_le}
use Rattle.xcp_base.specs.declared.limits.TheConstants.{MAX_CHANNELS, MAX_DTO, MAX_ENTRIES}
use Rattle.xcp_base.specs.declared.limits.TheConstants.{MAX_ODTS, MAX_ODTS_IN_ALL, MAX_PACKET}
use Rattle.xcp_base.specs.declared.limits.TheConstants.{MIN_DTO, RUN_CHANNELS, RUN_ENTRIES}
use Rattle.daq_store.specs.declared.limits.Limits.{Limits}
use Rattle.daq_store.specs.Calls.{Profile}

-- those of a run
abbrev pub run_limits : Limits
run_limits = record {
  channels = RUN_CHANNELS;
  odts = MAX_ODTS;
  entries = RUN_ENTRIES;
  max_dto = MAX_DTO;
}

-- those of a slave that a master connects to, with this MAX_DTO
abbrev pub slave_limits : ℕ → Limits
slave_limits max_dto = record {
  channels = MAX_CHANNELS;
  odts = MAX_ODTS_IN_ALL;
  entries = MAX_ENTRIES;
  max_dto = max_dto;
}

-- a store may have them
pub record AreAllowed (limits : Limits) : Type 0 where
  pub odts : limits.odts ≤ MAX_ODTS_IN_ALL
  pub least : MIN_DTO ≤ limits.max_dto
  pub most : limits.max_dto ≤ MAX_PACKET

-- the samples of each list find room in a value of fixed size: their packets are few and short
abbrev pub is_by_value : Profile → Bool
is_by_value profile = nat_le profile.most_odts MAX_ODTS && nat_le profile.form.max_dto MAX_DTO
