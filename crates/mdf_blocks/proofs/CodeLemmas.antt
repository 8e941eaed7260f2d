-- What the codes of the fields stand for: each for one thing.
use Rattle.std.proofs.Common.{◌≡◌, Bool, true, false, refl, ap, arith, ◌∙◌, List, ℕ, get_or}
use Rattle.measured_values.specs.declared.byte_order.ByteOrder.TheVariants.{MsbFirst, MsbLast}
use Rattle.mdf_blocks.specs.Conversions.{cc_type}
use Rattle.mdf_blocks.specs.Tables.{cn_data_type, cn_sync_type, cn_type, daylight_minutes, file_id}
use Rattle.mdf_blocks.specs.Tables.{time_flags, unfinished_flags, zone_minutes}
use Rattle.mdf_blocks.specs.declared.axis.Axis.TheVariants.{Index, Time}
use Rattle.mdf_blocks.specs.declared.channel_kind.ChannelKind.{ChannelKind}
use Rattle.mdf_blocks.specs.declared.channel_kind.ChannelKind.TheVariants.{Master, Value}
use Rattle.mdf_blocks.specs.declared.channel_kind.ChannelKind.TheVariants.{VirtualMaster}
use Rattle.mdf_blocks.specs.declared.conversion_kind.ConversionKind.{ConversionKind}
use Rattle.mdf_blocks.specs.declared.conversion_kind.ConversionKind.TheVariants.{Linear}
use Rattle.mdf_blocks.specs.declared.conversion_kind.ConversionKind.TheVariants.{RangesToTexts}
use Rattle.mdf_blocks.specs.declared.conversion_kind.ConversionKind.TheVariants.{Rational}
use Rattle.mdf_blocks.specs.declared.conversion_kind.ConversionKind.TheVariants.{ValuesToTexts}
use Rattle.mdf_blocks.specs.declared.file_state.FileState.{FileState}
use Rattle.mdf_blocks.specs.declared.file_state.FileState.TheVariants.{Finished, Unfinished}
use Rattle.mdf_blocks.specs.declared.value_format.ValueFormat.{ValueFormat}
use Rattle.mdf_blocks.specs.declared.value_format.ValueFormat.TheVariants.{Float as FloatOf}
use Rattle.mdf_blocks.specs.declared.value_format.ValueFormat.TheVariants.{Signed, Unsigned}
use Rattle.mdf_blocks.specs.declared.zone.Zone.{Zone}
use Rattle.mdf_blocks.specs.declared.zone.Zone.TheVariants.{Local, Offsets, Utc}

-- cn_type and cn_sync_type
pub same_kind : (a b : ChannelKind) → cn_type a ≡ cn_type b → cn_sync_type a ≡ cn_sync_type b
    → a ≡ b
same_kind Value Value e f = refl
same_kind Value (Master Time) e f = absurd (omega (arith, e))
same_kind Value (Master Index) e f = absurd (omega (arith, e))
same_kind Value (VirtualMaster Time) e f = absurd (omega (arith, e))
same_kind Value (VirtualMaster Index) e f = absurd (omega (arith, e))
same_kind (Master Time) Value e f = absurd (omega (arith, e))
same_kind (Master Time) (Master Time) e f = refl
same_kind (Master Time) (Master Index) e f = absurd (omega (arith, f))
same_kind (Master Time) (VirtualMaster Time) e f = absurd (omega (arith, e))
same_kind (Master Time) (VirtualMaster Index) e f = absurd (omega (arith, e))
same_kind (Master Index) Value e f = absurd (omega (arith, e))
same_kind (Master Index) (Master Time) e f = absurd (omega (arith, f))
same_kind (Master Index) (Master Index) e f = refl
same_kind (Master Index) (VirtualMaster Time) e f = absurd (omega (arith, e))
same_kind (Master Index) (VirtualMaster Index) e f = absurd (omega (arith, e))
same_kind (VirtualMaster Time) Value e f = absurd (omega (arith, e))
same_kind (VirtualMaster Time) (Master Time) e f = absurd (omega (arith, e))
same_kind (VirtualMaster Time) (Master Index) e f = absurd (omega (arith, e))
same_kind (VirtualMaster Time) (VirtualMaster Time) e f = refl
same_kind (VirtualMaster Time) (VirtualMaster Index) e f = absurd (omega (arith, f))
same_kind (VirtualMaster Index) Value e f = absurd (omega (arith, e))
same_kind (VirtualMaster Index) (Master Time) e f = absurd (omega (arith, e))
same_kind (VirtualMaster Index) (Master Index) e f = absurd (omega (arith, e))
same_kind (VirtualMaster Index) (VirtualMaster Time) e f = absurd (omega (arith, f))
same_kind (VirtualMaster Index) (VirtualMaster Index) e f = refl

-- cn_data_type
pub same_format : (a b : ValueFormat) → cn_data_type a ≡ cn_data_type b → a ≡ b
same_format (Unsigned MsbLast) (Unsigned MsbLast) e = refl
same_format (Unsigned MsbLast) (Unsigned MsbFirst) e = absurd (omega (arith, e))
same_format (Unsigned MsbLast) (Signed MsbLast) e = absurd (omega (arith, e))
same_format (Unsigned MsbLast) (Signed MsbFirst) e = absurd (omega (arith, e))
same_format (Unsigned MsbLast) (FloatOf MsbLast) e = absurd (omega (arith, e))
same_format (Unsigned MsbLast) (FloatOf MsbFirst) e = absurd (omega (arith, e))
same_format (Unsigned MsbFirst) (Unsigned MsbLast) e = absurd (omega (arith, e))
same_format (Unsigned MsbFirst) (Unsigned MsbFirst) e = refl
same_format (Unsigned MsbFirst) (Signed MsbLast) e = absurd (omega (arith, e))
same_format (Unsigned MsbFirst) (Signed MsbFirst) e = absurd (omega (arith, e))
same_format (Unsigned MsbFirst) (FloatOf MsbLast) e = absurd (omega (arith, e))
same_format (Unsigned MsbFirst) (FloatOf MsbFirst) e = absurd (omega (arith, e))
same_format (Signed MsbLast) (Unsigned MsbLast) e = absurd (omega (arith, e))
same_format (Signed MsbLast) (Unsigned MsbFirst) e = absurd (omega (arith, e))
same_format (Signed MsbLast) (Signed MsbLast) e = refl
same_format (Signed MsbLast) (Signed MsbFirst) e = absurd (omega (arith, e))
same_format (Signed MsbLast) (FloatOf MsbLast) e = absurd (omega (arith, e))
same_format (Signed MsbLast) (FloatOf MsbFirst) e = absurd (omega (arith, e))
same_format (Signed MsbFirst) (Unsigned MsbLast) e = absurd (omega (arith, e))
same_format (Signed MsbFirst) (Unsigned MsbFirst) e = absurd (omega (arith, e))
same_format (Signed MsbFirst) (Signed MsbLast) e = absurd (omega (arith, e))
same_format (Signed MsbFirst) (Signed MsbFirst) e = refl
same_format (Signed MsbFirst) (FloatOf MsbLast) e = absurd (omega (arith, e))
same_format (Signed MsbFirst) (FloatOf MsbFirst) e = absurd (omega (arith, e))
same_format (FloatOf MsbLast) (Unsigned MsbLast) e = absurd (omega (arith, e))
same_format (FloatOf MsbLast) (Unsigned MsbFirst) e = absurd (omega (arith, e))
same_format (FloatOf MsbLast) (Signed MsbLast) e = absurd (omega (arith, e))
same_format (FloatOf MsbLast) (Signed MsbFirst) e = absurd (omega (arith, e))
same_format (FloatOf MsbLast) (FloatOf MsbLast) e = refl
same_format (FloatOf MsbLast) (FloatOf MsbFirst) e = absurd (omega (arith, e))
same_format (FloatOf MsbFirst) (Unsigned MsbLast) e = absurd (omega (arith, e))
same_format (FloatOf MsbFirst) (Unsigned MsbFirst) e = absurd (omega (arith, e))
same_format (FloatOf MsbFirst) (Signed MsbLast) e = absurd (omega (arith, e))
same_format (FloatOf MsbFirst) (Signed MsbFirst) e = absurd (omega (arith, e))
same_format (FloatOf MsbFirst) (FloatOf MsbLast) e = absurd (omega (arith, e))
same_format (FloatOf MsbFirst) (FloatOf MsbFirst) e = refl

-- cc_type
pub same_conversion_kind : (a b : ConversionKind) → cc_type a ≡ cc_type b → a ≡ b
same_conversion_kind Linear Linear e = refl
same_conversion_kind Linear Rational e = absurd (omega (arith, e))
same_conversion_kind Linear ValuesToTexts e = absurd (omega (arith, e))
same_conversion_kind Linear RangesToTexts e = absurd (omega (arith, e))
same_conversion_kind Rational Linear e = absurd (omega (arith, e))
same_conversion_kind Rational Rational e = refl
same_conversion_kind Rational ValuesToTexts e = absurd (omega (arith, e))
same_conversion_kind Rational RangesToTexts e = absurd (omega (arith, e))
same_conversion_kind ValuesToTexts Linear e = absurd (omega (arith, e))
same_conversion_kind ValuesToTexts Rational e = absurd (omega (arith, e))
same_conversion_kind ValuesToTexts ValuesToTexts e = refl
same_conversion_kind ValuesToTexts RangesToTexts e = absurd (omega (arith, e))
same_conversion_kind RangesToTexts Linear e = absurd (omega (arith, e))
same_conversion_kind RangesToTexts Rational e = absurd (omega (arith, e))
same_conversion_kind RangesToTexts ValuesToTexts e = absurd (omega (arith, e))
same_conversion_kind RangesToTexts RangesToTexts e = refl

-- id_unfin_flags
same_flags : (a b d x y z : Bool)
    → unfinished_flags (Unfinished a b d) ≡ unfinished_flags (Unfinished x y z)
    → Unfinished a b d ≡ Unfinished x y z
same_flags false false false false false false e = refl
same_flags false false false false false true e = absurd (omega (arith, e))
same_flags false false false false true false e = absurd (omega (arith, e))
same_flags false false false false true true e = absurd (omega (arith, e))
same_flags false false false true false false e = absurd (omega (arith, e))
same_flags false false false true false true e = absurd (omega (arith, e))
same_flags false false false true true false e = absurd (omega (arith, e))
same_flags false false false true true true e = absurd (omega (arith, e))
same_flags false false true false false false e = absurd (omega (arith, e))
same_flags false false true false false true e = refl
same_flags false false true false true false e = absurd (omega (arith, e))
same_flags false false true false true true e = absurd (omega (arith, e))
same_flags false false true true false false e = absurd (omega (arith, e))
same_flags false false true true false true e = absurd (omega (arith, e))
same_flags false false true true true false e = absurd (omega (arith, e))
same_flags false false true true true true e = absurd (omega (arith, e))
same_flags false true false false false false e = absurd (omega (arith, e))
same_flags false true false false false true e = absurd (omega (arith, e))
same_flags false true false false true false e = refl
same_flags false true false false true true e = absurd (omega (arith, e))
same_flags false true false true false false e = absurd (omega (arith, e))
same_flags false true false true false true e = absurd (omega (arith, e))
same_flags false true false true true false e = absurd (omega (arith, e))
same_flags false true false true true true e = absurd (omega (arith, e))
same_flags false true true false false false e = absurd (omega (arith, e))
same_flags false true true false false true e = absurd (omega (arith, e))
same_flags false true true false true false e = absurd (omega (arith, e))
same_flags false true true false true true e = refl
same_flags false true true true false false e = absurd (omega (arith, e))
same_flags false true true true false true e = absurd (omega (arith, e))
same_flags false true true true true false e = absurd (omega (arith, e))
same_flags false true true true true true e = absurd (omega (arith, e))
same_flags true false false false false false e = absurd (omega (arith, e))
same_flags true false false false false true e = absurd (omega (arith, e))
same_flags true false false false true false e = absurd (omega (arith, e))
same_flags true false false false true true e = absurd (omega (arith, e))
same_flags true false false true false false e = refl
same_flags true false false true false true e = absurd (omega (arith, e))
same_flags true false false true true false e = absurd (omega (arith, e))
same_flags true false false true true true e = absurd (omega (arith, e))
same_flags true false true false false false e = absurd (omega (arith, e))
same_flags true false true false false true e = absurd (omega (arith, e))
same_flags true false true false true false e = absurd (omega (arith, e))
same_flags true false true false true true e = absurd (omega (arith, e))
same_flags true false true true false false e = absurd (omega (arith, e))
same_flags true false true true false true e = refl
same_flags true false true true true false e = absurd (omega (arith, e))
same_flags true false true true true true e = absurd (omega (arith, e))
same_flags true true false false false false e = absurd (omega (arith, e))
same_flags true true false false false true e = absurd (omega (arith, e))
same_flags true true false false true false e = absurd (omega (arith, e))
same_flags true true false false true true e = absurd (omega (arith, e))
same_flags true true false true false false e = absurd (omega (arith, e))
same_flags true true false true false true e = absurd (omega (arith, e))
same_flags true true false true true false e = refl
same_flags true true false true true true e = absurd (omega (arith, e))
same_flags true true true false false false e = absurd (omega (arith, e))
same_flags true true true false false true e = absurd (omega (arith, e))
same_flags true true true false true false e = absurd (omega (arith, e))
same_flags true true true false true true e = absurd (omega (arith, e))
same_flags true true true true false false e = absurd (omega (arith, e))
same_flags true true true true false true e = absurd (omega (arith, e))
same_flags true true true true true false e = absurd (omega (arith, e))
same_flags true true true true true true e = refl

first_letter : {xs ys : List ℕ} → xs ≡ ys → get_or xs 0 0 ≡ get_or ys 0 0
first_letter e = ap (λ zs. get_or zs 0 0) e

-- id_file and id_unfin_flags
pub same_state : (a b : FileState) → file_id a ≡ file_id b
    → unfinished_flags a ≡ unfinished_flags b → a ≡ b
same_state Finished Finished e f = refl
same_state Finished (Unfinished x y z) e f = absurd (omega (arith, first_letter e))
same_state (Unfinished a b d) Finished e f = absurd (omega (arith, first_letter e))
same_state (Unfinished a b d) (Unfinished x y z) e f = same_flags a b d x y z f

-- the offsets of a time and its flags
pub same_zone : (a b : Zone) → time_flags a ≡ time_flags b → zone_minutes a ≡ zone_minutes b
    → daylight_minutes a ≡ daylight_minutes b → a ≡ b
same_zone Utc Utc e f g = refl
same_zone Utc Local e f g = absurd (omega (arith, e))
same_zone Utc (Offsets x y) e f g = absurd (omega (arith, e))
same_zone Local Utc e f g = absurd (omega (arith, e))
same_zone Local Local e f g = refl
same_zone Local (Offsets x y) e f g = absurd (omega (arith, e))
same_zone (Offsets a b) Utc e f g = absurd (omega (arith, e))
same_zone (Offsets a b) Local e f g = absurd (omega (arith, e))
same_zone (Offsets a b) (Offsets x y) e f g = ap (λ z. Offsets z b) f ∙ ap (λ d. Offsets x d) g
