-- What the blocks that are written say.
use Rattle.std.proofs.Common.{◌≡◌, ℕ, ◌+◌, ◌^◌, ◌<◌, ℤ, List, [], ◌∷◌, ◌++◌, ◌∙◌, All, length, refl}
use Rattle.std.proofs.Common.{ap, sym}
use Rattle.std.proofs.Common.{Option, Some, None, arith, append-nil, append_assoc, length-append}
use Rattle.std.proofs.Common.{subst, Bool, true, false, lit<}
use Rattle.mdf_blocks.specs.declared.file_state.FileState.{FileState}
use Rattle.mdf_blocks.specs.declared.file_state.FileState.TheVariants.{Finished, Unfinished}
use Rattle.mdf_blocks.proofs.ListLemmas.{eight, eight_of}
use Rattle.std.proofs.lemmas.List.Elements.{All-head, All-tail}
use Rattle.std.proofs.lemmas.Nat.{from_le_bytes-to_le_bytes_2, from_le_bytes-to_le_bytes_4}
use Rattle.std.proofs.lemmas.Nat.{from_le_bytes-to_le_bytes_8}
use Rattle.std.specs.Float.{Float, binary64}
use Rattle.std.specs.Float.Ieee.{to_bits}
use Rattle.std.proofs.lemmas.Float.{T_from_true}
use Rattle.std.specs.Float.Ieee.{fits}
use Rattle.std.specs.Int.{cast_signed, cast_unsigned, from_le_bytes, w16, w32, w64}
use Rattle.std.specs.Prelude.{from_bits}
use lib.Ieee.Bits.{of_bits-to_bits, to_bits-lt}
use Rattle.std.specs.Prelude.{FitsSigned}
use mir.Facts.{Fits-of_z, to_z-of_z}
use Rattle.mdf_blocks.specs.Conversions.{cc_body, cc_front, cc_links}
use Rattle.mdf_blocks.specs.Fields.{SaysChannel, SaysChannelGroup, SaysConversion, SaysDataGroup}
use Rattle.mdf_blocks.specs.Fields.{SaysHeader, SaysHistory, SaysLimits, SaysList, SaysState}
use Rattle.mdf_blocks.specs.Numbers.{AreReals, AreUint64s, real, real_at, reals, uint16, uint32}
use Rattle.mdf_blocks.specs.Numbers.{uint64s}
use Rattle.mdf_blocks.specs.Ranges.{FitsChannel, FitsConversion, FitsGroup, FitsLimits, FitsList}
use Rattle.mdf_blocks.specs.Ranges.{FitsTime, IsReal}
use Rattle.mdf_blocks.specs.Records.{dl_body, dl_front, dl_links, offsets_of}
use Rattle.mdf_blocks.specs.Saying.{EachSays}
use Rattle.mdf_blocks.specs.Tables.{cg_body, cg_links, cn_body, cn_links, dg_body, dg_links}
use Rattle.mdf_blocks.specs.Tables.{cn_flags, daylight_minutes, fh_body, fh_links, hd_body}
use Rattle.mdf_blocks.specs.Tables.{hd_links, id_block, unfinished_flags, zone_minutes}
use Rattle.mdf_blocks.specs.declared.channel.Channel.{Channel}
use Rattle.mdf_blocks.specs.declared.channel_group.ChannelGroup.{ChannelGroup}
use Rattle.mdf_blocks.specs.declared.conversion_kind.ConversionKind.{ConversionKind}
use Rattle.mdf_blocks.specs.declared.data_group.DataGroup.{DataGroup}
use Rattle.mdf_blocks.specs.declared.file_header.FileHeader.{FileHeader}
use Rattle.mdf_blocks.specs.declared.file_history.FileHistory.{FileHistory}
use Rattle.mdf_blocks.specs.declared.listed_data.ListedData.{ListedData}
use Rattle.measured_values.specs.declared.value_limits.ValueLimits.{ValueLimits}
use Rattle.mdf_blocks.proofs.PartLemmas.{AreUint64s-written, part_at}

group_says : (g : ChannelGroup) → FitsGroup g → SaysChannelGroup (cg_links g) (cg_body g) g
group_says g fits = record {
  only = refl;
  first_channel = refl;
  acquisition_name = refl;
  comment = refl;
  cycles = from_le_bytes-to_le_bytes_8 g.cycles fits.cycles;
  flags = refl;
  record_bytes = from_le_bytes-to_le_bytes_4 g.record_bytes fits.record_bytes;
  no_invalid = refl;
}

data_group_says : (g : DataGroup) → SaysDataGroup (dg_links g) dg_body g
data_group_says g = record {
  next = refl;
  channel_group = refl;
  records = refl;
  comment = refl;
  no_id = refl;
}

-- the bits of a signed number of 16 bits
bits-lt : (z : ℤ) → FitsSigned w16 z → cast_unsigned w16 z < 2 ^ 16
bits-lt z fits = let h = Fits-of_z {w = w16} {z = z} fits in omega (arith, h)

-- a signed number is read back of its bits
signed_back : (z : ℤ) → FitsSigned w16 z
    → cast_signed w16 (from_le_bytes w16 (uint16 (cast_unsigned w16 z))) ≡ z
signed_back z fits =
    ap (cast_signed w16) (from_le_bytes-to_le_bytes_2 (cast_unsigned w16 z) (bits-lt z fits))
    ∙ to_z-of_z {w = w16} {z = z} fits

-- a float is read back of its bits
real_back : (x : Float) → IsReal x → from_bits binary64 (from_le_bytes w64 (real x)) ≡ x
real_back x is =
    let fitting = T_from_true (fits binary64 x) is in
    let small : to_bits binary64 x < 2 ^ 64 = omega (arith, to_bits-lt binary64 x fitting) in
    ap (from_bits binary64) (from_le_bytes-to_le_bytes_8 (to_bits binary64 x) small)
    ∙ of_bits-to_bits binary64 x fitting

-- a float that stands behind others
real_at-written : (front back : List ℕ) (at : ℕ) (x : Float) → at ≡ length front → IsReal x
    → x ≡ real_at at (front ++ (real x ++ back))
real_at-written front back at x begins is =
    sym (ap (λ part. from_bits binary64 (from_le_bytes w64 part))
    (part_at front (real x) back at (at + 8) begins refl) ∙ real_back x is)

-- floats that stand behind others
pub AreReals-written : (xs : List Float) (front back : List ℕ) (at : ℕ) → at ≡ length front
    → All IsReal xs → AreReals at (front ++ (reals xs ++ back)) xs
AreReals-written [] front back at begins are = tt
AreReals-written (x ∷ xs) front back at begins are =
    let whole : front ++ (reals (x ∷ xs) ++ back) ≡ front ++ (real x ++ (reals xs ++ back)) =
    ap (λ zs. front ++ zs) (append_assoc (real x) (reals xs) back) in
    let later : front ++ (reals (x ∷ xs) ++ back) ≡ (front ++ real x) ++ (reals xs ++ back) =
    whole ∙ sym (append_assoc front (real x) (reals xs ++ back)) in
    let next : at + 8 ≡ length (front ++ real x) = omega (arith, length-append front (real x)) in (
      real_at-written front (reals xs ++ back) at x begins (All-head IsReal x xs are)
          ∙ ap (real_at at) (sym whole),
      subst (λ (bytes : List ℕ). AreReals (at + 8) bytes xs) (sym later)
          (AreReals-written xs (front ++ real x) back (at + 8) next (All-tail IsReal x xs are)),
    )

header_says : (h : FileHeader) → FitsTime h.start → SaysHeader (hd_links h) (hd_body h) h
header_says h fits = record {
  first_group = refl;
  first_history = refl;
  comment = refl;
  start = record {
    nanoseconds = from_le_bytes-to_le_bytes_8 h.start.nanoseconds fits.nanoseconds;
    zone = signed_back (zone_minutes h.start.zone) fits.zone;
    daylight =
        signed_back (daylight_minutes h.start.zone) fits.daylight;
    flags = refl;
  };
}

history_says : (h : FileHistory) → FitsTime h.time → SaysHistory (fh_links h) (fh_body h) h
history_says h fits = record {
  next = refl;
  comment = refl;
  time = record {
    nanoseconds = from_le_bytes-to_le_bytes_8 h.time.nanoseconds fits.nanoseconds;
    zone = signed_back (zone_minutes h.time.zone) fits.zone;
    daylight =
        signed_back (daylight_minutes h.time.zone) fits.daylight;
    flags = refl;
  };
}

-- the limits of a channel
limits_say : (c : Channel) (limits : Option ValueLimits) → c.limits ≡ limits → FitsLimits limits
    → SaysLimits (cn_body c) limits
limits_say c None is fits = ap (λ n. from_le_bytes w32 (uint32 (cn_flags n))) is
limits_say c (Some limits) is fits =
    let body : cn_body c ≡ cn_body (record c { limits = Some limits }) =
    ap (λ (l : Option ValueLimits). cn_body (record c { limits = l })) is in
    let least = sym (real_back limits.least fits.0) ∙ sym (ap (real_at 40) body) in
    let greatest = sym (real_back limits.greatest fits.1) ∙ sym (ap (real_at 48) body) in
    (ap (λ n. from_le_bytes w32 (uint32 (cn_flags n))) is, (least, (greatest, tt)))

channel_says : (c : Channel) → FitsChannel c → SaysChannel (cn_links c) (cn_body c) c
channel_says c fits = record {
  next = refl;
  alone = refl;
  name = refl;
  conversion = refl;
  unit = refl;
  comment = refl;
  kind = refl;
  sync = refl;
  format = refl;
  bit_offset = refl;
  byte_offset = from_le_bytes-to_le_bytes_4 c.byte_offset fits.byte_offset;
  bit_count = from_le_bytes-to_le_bytes_4 c.bit_count fits.bit_count;
  limits = limits_say c c.limits refl fits.limits;
}

conversion_says : (kind : ConversionKind) (unit : ℕ) (references : List ℕ) (values : List Float)
    → FitsConversion references values
    → SaysConversion (cc_links unit references) (cc_body kind (length references) values) kind unit
    references values
conversion_says kind unit references values fits = record {
  unit_is = refl;
  texts = refl;
  kind_is = refl;
  text_count = from_le_bytes-to_le_bytes_2 (length references) fits.few_texts;
  value_count = from_le_bytes-to_le_bytes_2 (length values) fits.few_values;
  values_are = subst (λ (bytes : List ℕ). AreReals 24 bytes values)
      (ap (λ zs. cc_front kind (length references) (length values) ++ zs)
      (append-nil (reals values)))
      (AreReals-written values (cc_front kind (length references) (length values)) [] 24 refl
      fits.reals);
}

list_says : (next : ℕ) (blocks : List ListedData) → FitsList blocks
    → SaysList (dl_links next blocks) (dl_body blocks) next blocks
list_says next blocks fits = record {
  next_is = refl;
  places = refl;
  flags = refl;
  count = from_le_bytes-to_le_bytes_4 (length blocks) fits.few;
  offsets = subst (λ (bytes : List ℕ). AreUint64s 8 bytes (offsets_of blocks))
      (ap (λ zs. dl_front (length blocks) ++ zs) (append-nil (uint64s (offsets_of blocks))))
      (AreUint64s-written (offsets_of blocks) (dl_front (length blocks)) [] 8 refl fits.offsets);
}

flags_small : (cycles last_data last_list : Bool)
    → unfinished_flags (Unfinished cycles last_data last_list) < 2 ^ 16
flags_small false false false = lit< tt
flags_small false false true = lit< tt
flags_small false true false = lit< tt
flags_small false true true = lit< tt
flags_small true false false = lit< tt
flags_small true false true = lit< tt
flags_small true true false = lit< tt
flags_small true true true = lit< tt

-- ID says whether the file is finished
eight_say : (state : FileState) (program behind : List ℕ)
    → SaysState (id_block state (eight program) ++ behind) state
eight_say Finished program behind = record {
  file = refl;
  version = refl;
  number = refl;
  flags = refl;
}
eight_say (Unfinished cycles last_data last_list) program behind = record {
  file = refl;
  version = refl;
  number = refl;
  flags = from_le_bytes-to_le_bytes_2 _ (flags_small cycles last_data last_list);
}

state_says : (state : FileState) (program behind : List ℕ) → length program ≡ 8
    → SaysState (id_block state program ++ behind) state
state_says state program behind eight_long =
    subst (λ (ps : List ℕ). SaysState (id_block state ps ++ behind) state)
    (eight_of program eight_long) (eight_say state program behind)

pub each_says : EachSays
each_says = record {
  state = state_says;
  header = header_says;
  history = history_says;
  data_group = data_group_says;
  channel_group = group_says;
  channel = channel_says;
  conversion = conversion_says;
  data_list = list_says;
}
