-- A file tells one thing.
use Rattle.std.proofs.Common.{◌≡◌, ◌≢◌, ℕ, ◌+◌, List, [], ◌∷◌, ◌++◌, ◌∙◌, All, codes, length}
use Rattle.std.proofs.Common.{Option, Some, None, inl, inr, refl, sym, ap, subst, arith, drop}
use Rattle.std.proofs.Common.{get_or}
use Rattle.std.proofs.lemmas.List.Elements.{All-head, All-tail}
use Rattle.std.specs.Float.{Float}
use Rattle.std.specs.List.{concat}
use Rattle.mdf_blocks.specs.Blocks.{IsBlockAt}
use Rattle.mdf_blocks.specs.Fields.{SaysLimits, SaysTime}
use Rattle.mdf_blocks.specs.Numbers.{AreReals, uint16_at, uint32_at, uint8_at}
use Rattle.mdf_blocks.specs.OneTelling.{TellsOneThing}
use Rattle.mdf_blocks.specs.Records.{places_of}
use Rattle.mdf_blocks.specs.Texts.{IsTextOf}
use Rattle.mdf_blocks.specs.Told.{AreListed, AreLists, IsChannelAt, IsConversionAt, IsGroupAt}
use Rattle.mdf_blocks.specs.Told.{IsHistoryAt, IsListAt, TellsChannels, TellsConversion}
use Rattle.mdf_blocks.specs.Told.{TellsGroups, TellsHistories, TellsRecords, TellsText, TellsTexts}
use Rattle.mdf_blocks.specs.Told.{ToldChannel, ToldConversion, ToldFile, ToldGroup, ToldHistory}
use Rattle.mdf_blocks.specs.declared.channel_kind.ChannelKind.{ChannelKind}
use Rattle.mdf_blocks.specs.declared.conversion_kind.ConversionKind.{ConversionKind}
use Rattle.mdf_blocks.specs.declared.file_state.FileState.{FileState}
use Rattle.mdf_blocks.specs.declared.listed_data.ListedData.{ListedData}
use Rattle.mdf_blocks.specs.declared.time.Time.{Time as TimeOf}
use Rattle.mdf_blocks.specs.declared.value_format.ValueFormat.{ValueFormat}
use Rattle.measured_values.specs.declared.value_limits.ValueLimits.{ValueLimits}
use Rattle.mdf_blocks.specs.declared.zone.Zone.{Zone}
use Rattle.mdf_blocks.proofs.CodeLemmas.{same_conversion_kind, same_format, same_kind, same_state}
use Rattle.mdf_blocks.proofs.CodeLemmas.{same_zone}
use Rattle.mdf_blocks.proofs.ReadLemmas.{read_one_way}

-- what is told is equal if its parts are
same_conversion_parts : (a b : ToldConversion) → a.kind ≡ b.kind → a.values ≡ b.values
    → a.texts ≡ b.texts → a ≡ b
same_conversion_parts a b e0 e1 e2 =
    let make : ConversionKind → List Float → List (Option (List ℕ)) → ToldConversion =
    λ f0 f1 f2. record { kind = f0; values = f1; texts = f2 } in
    ap (λ x. make x a.values a.texts) e0
    ∙ ap (λ x. make b.kind x a.texts) e1
    ∙ ap (λ x. make b.kind b.values x) e2

same_channel_parts : (a b : ToldChannel) → a.name ≡ b.name → a.unit ≡ b.unit
    → a.comment ≡ b.comment → a.conversion ≡ b.conversion → a.kind ≡ b.kind
    → a.format ≡ b.format
    → a.bit_offset ≡ b.bit_offset → a.byte_offset ≡ b.byte_offset → a.bit_count ≡ b.bit_count
    → a.limits ≡ b.limits → a ≡ b
same_channel_parts a b e0 e1 e2 e3 e4 e5 e6 e7 e8 e9 =
    let make : Option (List ℕ) → Option (List ℕ) → Option (List ℕ) → Option ToldConversion
    → ChannelKind → ValueFormat → ℕ → ℕ → ℕ → Option ValueLimits → ToldChannel =
    λ f0 f1 f2 f3 f4 f5 f6 f7 f8 f9. record {
      name = f0;
      unit = f1;
      comment = f2;
      conversion = f3;
      kind = f4;
      format = f5;
      bit_offset = f6;
      byte_offset = f7;
      bit_count = f8;
      limits = f9;
    } in
    ap (λ x. make x a.unit a.comment a.conversion a.kind a.format a.bit_offset a.byte_offset
    a.bit_count a.limits) e0
    ∙ ap (λ x. make b.name x a.comment a.conversion a.kind a.format a.bit_offset a.byte_offset
    a.bit_count a.limits) e1
    ∙ ap (λ x. make b.name b.unit x a.conversion a.kind a.format a.bit_offset a.byte_offset
    a.bit_count a.limits) e2
    ∙ ap (λ x. make b.name b.unit b.comment x a.kind a.format a.bit_offset a.byte_offset
    a.bit_count a.limits) e3
    ∙ ap (λ x. make b.name b.unit b.comment b.conversion x a.format a.bit_offset a.byte_offset
    a.bit_count a.limits) e4
    ∙ ap (λ x. make b.name b.unit b.comment b.conversion b.kind x a.bit_offset a.byte_offset
    a.bit_count a.limits) e5
    ∙ ap (λ x. make b.name b.unit b.comment b.conversion b.kind b.format x a.byte_offset
    a.bit_count a.limits) e6
    ∙ ap (λ x. make b.name b.unit b.comment b.conversion b.kind b.format b.bit_offset x a.bit_count
    a.limits) e7
    ∙ ap (λ x. make b.name b.unit b.comment b.conversion b.kind b.format b.bit_offset b.byte_offset
    x a.limits) e8
    ∙ ap (λ x. make b.name b.unit b.comment b.conversion b.kind b.format b.bit_offset b.byte_offset
    b.bit_count x) e9

same_group_parts : (a b : ToldGroup) → a.name ≡ b.name → a.channels ≡ b.channels
    → a.record_bytes ≡ b.record_bytes → a.records ≡ b.records → a ≡ b
same_group_parts a b e0 e1 e2 e3 =
    let make : Option (List ℕ) → List ToldChannel → ℕ → List ℕ → ToldGroup =
    λ f0 f1 f2 f3. record { name = f0; channels = f1; record_bytes = f2; records = f3 } in
    ap (λ x. make x a.channels a.record_bytes a.records) e0
    ∙ ap (λ x. make b.name x a.record_bytes a.records) e1
    ∙ ap (λ x. make b.name b.channels x a.records) e2
    ∙ ap (λ x. make b.name b.channels b.record_bytes x) e3

same_history_parts : (a b : ToldHistory) → a.time ≡ b.time → a.comment ≡ b.comment → a ≡ b
same_history_parts a b e0 e1 =
    let make : TimeOf → Option (List ℕ) → ToldHistory =
    λ f0 f1. record { time = f0; comment = f1 } in
    ap (λ x. make x a.comment) e0
    ∙ ap (λ x. make b.time x) e1

same_file_parts : (a b : ToldFile) → a.state ≡ b.state → a.start ≡ b.start
    → a.histories ≡ b.histories → a.groups ≡ b.groups → a ≡ b
same_file_parts a b e0 e1 e2 e3 =
    let make : FileState → TimeOf → List ToldHistory → List ToldGroup → ToldFile =
    λ f0 f1 f2 f3. record { state = f0; start = f1; histories = f2; groups = f3 } in
    ap (λ x. make x a.start a.histories a.groups) e0
    ∙ ap (λ x. make b.state x a.histories a.groups) e1
    ∙ ap (λ x. make b.state b.start x a.groups) e2
    ∙ ap (λ x. make b.state b.start b.histories x) e3

same_time_parts : (a b : TimeOf) → a.nanoseconds ≡ b.nanoseconds → a.zone ≡ b.zone → a ≡ b
same_time_parts a b e0 e1 =
    let make : ℕ → Zone → TimeOf =
    λ f0 f1. record { nanoseconds = f0; zone = f1 } in
    ap (λ x. make x a.zone) e0
    ∙ ap (λ x. make b.nanoseconds x) e1

same_limits_parts : (a b : ValueLimits) → a.least ≡ b.least → a.greatest ≡ b.greatest → a ≡ b
same_limits_parts a b e0 e1 =
    let make : Float → Float → ValueLimits =
    λ f0 f1. record { least = f0; greatest = f1 } in
    ap (λ x. make x a.greatest) e0
    ∙ ap (λ x. make b.least x) e1

-- two lists that are not empty are equal if their parts are
same_cons : {X : Type 0} (x y : X) (xs ys : List X) → x ≡ y → xs ≡ ys → x ∷ xs ≡ y ∷ ys
same_cons x y xs ys e f = ap (λ z. z ∷ xs) e ∙ ap (λ zs. y ∷ zs) f

-- a text up to its first zero
same_until_zero : (xs ys more others : List ℕ) → All (λ b. b ≢ 0) xs → All (λ b. b ≢ 0) ys
    → xs ++ 0 ∷ more ≡ ys ++ 0 ∷ others → xs ≡ ys
same_until_zero [] [] more others p q e = refl
same_until_zero [] (y ∷ ys) more others p q e =
    absurd (All-head (λ b. b ≢ 0) y ys q (sym (ap (λ zs. get_or zs 0 0) e)))
same_until_zero (x ∷ xs) [] more others p q e =
    absurd (All-head (λ b. b ≢ 0) x xs p (ap (λ zs. get_or zs 0 0) e))
same_until_zero (x ∷ xs) (y ∷ ys) more others p q e =
    same_cons x y xs ys (ap (λ zs. get_or zs 0 0) e)
    (same_until_zero xs ys more others (All-tail (λ b. b ≢ 0) x xs p) (All-tail (λ b. b ≢ 0) y ys q)
    (ap (drop 1) e))

same_text_of : (body other text words : List ℕ) → body ≡ other → IsTextOf body text
    → IsTextOf other words → text ≡ words
same_text_of body other text words same t w =
    same_until_zero text words t.behind w.behind t.whole w.whole (sym t.ended ∙ same ∙ w.ended)

text_one : (bytes id : List ℕ) (link : ℕ) (a b : Option (List ℕ)) → TellsText bytes id link a
    → TellsText bytes id link b → a ≡ b
text_one bytes id link None None p q = refl
text_one bytes id link None (Some b) p q = absurd (q.0 p)
text_one bytes id link (Some a) None p q = absurd (p.0 q)
text_one bytes id link (Some a) (Some b) p q =
    let same = read_one_way bytes link id [] p.1.0 id [] q.1.0 p.1.1 q.1.1 in
    ap Some (same_text_of p.1.0 q.1.0 a b same.2 p.1.2 q.1.2)

-- the same, at links that are equal
text_at : (bytes id : List ℕ) (link other : ℕ) (a b : Option (List ℕ)) → link ≡ other
    → TellsText bytes id link a → TellsText bytes id other b → a ≡ b
text_at bytes id link other a b same p q =
    text_one bytes id link a b p (subst (λ n. TellsText bytes id n b) (sym same) q)

texts_one : (bytes links : List ℕ) (a b : List (Option (List ℕ))) → TellsTexts bytes links a
    → TellsTexts bytes links b → a ≡ b
texts_one bytes [] a b p q = p ∙ sym q
texts_one bytes (link ∷ links) [] b p q = absurd p
texts_one bytes (link ∷ links) (x ∷ a) [] p q = absurd q
texts_one bytes (link ∷ links) (x ∷ a) (y ∷ b) p q =
    same_cons x y a b (text_one bytes (codes "##TX") link x y p.0 q.0)
    (texts_one bytes links a b p.1 q.1)

reals_one : (bytes : List ℕ) (at : ℕ) (xs ys : List Float) → length xs ≡ length ys
    → AreReals at bytes xs → AreReals at bytes ys → xs ≡ ys
reals_one bytes at [] [] e p q = refl
reals_one bytes at [] (y ∷ ys) e p q = absurd (omega (arith, e))
reals_one bytes at (x ∷ xs) [] e p q = absurd (omega (arith, e))
reals_one bytes at (x ∷ xs) (y ∷ ys) e p q =
    same_cons x y xs ys (p.0 ∙ sym q.0) (reals_one bytes (at + 8) xs ys (omega (arith, e)) p.1 q.1)

conversion_one : (bytes : List ℕ) (at : ℕ) (a b : ToldConversion) → IsConversionAt bytes at a
    → IsConversionAt bytes at b → a ≡ b
conversion_one bytes at a b p q =
    let same = read_one_way bytes at (codes "##CC") p.links p.body (codes "##CC") q.links q.body
    p.block q.block in
    let counts : length a.values ≡ length b.values =
    sym p.says.value_count ∙ ap (uint16_at 6) same.2 ∙ q.says.value_count in
    let references : p.references ≡ q.references =
    sym p.says.texts ∙ ap (drop 4) same.1 ∙ q.says.texts in
    same_conversion_parts a b
    (same_conversion_kind a.kind b.kind
    (sym p.says.kind_is ∙ ap (uint8_at 0) same.2 ∙ q.says.kind_is))
    (reals_one p.body 24 a.values b.values counts p.says.values_are
    (subst (λ body. AreReals 24 body b.values) (sym same.2) q.says.values_are))
    (texts_one bytes p.references a.texts b.texts p.texts
    (subst (λ links. TellsTexts bytes links b.texts) (sym references) q.texts))

conversion_at : (bytes : List ℕ) (link other : ℕ) (a b : Option ToldConversion) → link ≡ other
    → TellsConversion bytes link a → TellsConversion bytes other b → a ≡ b
conversion_at bytes link other None None same p q = refl
conversion_at bytes link other None (Some b) same p q = absurd (q.0 (sym same ∙ p))
conversion_at bytes link other (Some a) None same p q = absurd (p.0 (same ∙ q))
conversion_at bytes link other (Some a) (Some b) same p q =
    ap Some (conversion_one bytes link a b p.1
    (subst (λ n. IsConversionAt bytes n b) (sym same) q.1))

limits_one : (body : List ℕ) (a b : Option ValueLimits) → SaysLimits body a → SaysLimits body b
    → a ≡ b
limits_one body None None p q = refl
limits_one body None (Some b) p q = absurd (omega (arith, p, q.0))
limits_one body (Some a) None p q = absurd (omega (arith, p.0, q))
limits_one body (Some a) (Some b) p q =
    ap Some (same_limits_parts a b (p.1.0 ∙ sym q.1.0) (p.1.1.0 ∙ sym q.1.1.0))

time_one : (body : List ℕ) (a b : TimeOf) → SaysTime body a → SaysTime body b → a ≡ b
time_one body a b p q =
    same_time_parts a b (sym p.nanoseconds ∙ q.nanoseconds)
    (same_zone a.zone b.zone (sym p.flags ∙ q.flags) (sym p.zone ∙ q.zone)
    (sym p.daylight ∙ q.daylight))

channel_one : (bytes : List ℕ) (at : ℕ) (a b : ToldChannel) (next later : ℕ)
    → IsChannelAt bytes at a next → IsChannelAt bytes at b later → (a ≡ b) × (next ≡ later)
channel_one bytes at a b next later p q =
    let same = read_one_way bytes at (codes "##CN") p.links p.body (codes "##CN") q.links q.body
    p.block q.block in
    let link = λ (n : ℕ). ap (λ ls. get_or ls n 0) same.1 in (
      same_channel_parts a b
          (text_at bytes (codes "##TX") p.channel.name q.channel.name a.name b.name
          (sym p.says.name ∙ link 2 ∙ q.says.name) p.name q.name)
          (text_at bytes (codes "##TX") p.channel.unit q.channel.unit a.unit b.unit
          (sym p.says.unit ∙ link 6 ∙ q.says.unit) p.unit q.unit)
          (text_at bytes (codes "##TX") p.channel.comment q.channel.comment a.comment b.comment
          (sym p.says.comment ∙ link 7 ∙ q.says.comment) p.comment q.comment)
          (conversion_at bytes p.channel.conversion q.channel.conversion a.conversion b.conversion
          (sym p.says.conversion ∙ link 4 ∙ q.says.conversion) p.conversion q.conversion)
          (p.kind
          ∙ same_kind p.channel.kind q.channel.kind
          (sym p.says.kind ∙ ap (uint8_at 0) same.2 ∙ q.says.kind)
          (sym p.says.sync ∙ ap (uint8_at 1) same.2 ∙ q.says.sync)
          ∙ sym q.kind)
          (p.format
          ∙ same_format p.channel.format q.channel.format
          (sym p.says.format ∙ ap (uint8_at 2) same.2 ∙ q.says.format)
          ∙ sym q.format)
          (p.bit_offset ∙ sym p.says.bit_offset ∙ ap (uint8_at 3) same.2 ∙ q.says.bit_offset
          ∙ sym q.bit_offset)
          (p.byte_offset ∙ sym p.says.byte_offset ∙ ap (uint32_at 4) same.2 ∙ q.says.byte_offset
          ∙ sym q.byte_offset)
          (p.bit_count ∙ sym p.says.bit_count ∙ ap (uint32_at 8) same.2 ∙ q.says.bit_count
          ∙ sym q.bit_count)
          (p.limits
          ∙ limits_one p.body p.channel.limits q.channel.limits p.says.limits
          (subst (λ body. SaysLimits body q.channel.limits) (sym same.2) q.says.limits)
          ∙ sym q.limits),
      sym p.goes_on ∙ sym p.says.next ∙ link 0 ∙ q.says.next ∙ q.goes_on,
    )

channels_one : (bytes : List ℕ) (link other : ℕ) (a b : List ToldChannel) → link ≡ other
    → TellsChannels bytes link a → TellsChannels bytes other b → a ≡ b
channels_one bytes link other [] [] same p q = refl
channels_one bytes link other [] (y ∷ b) same p q = absurd (q.0 (sym same ∙ p))
channels_one bytes link other (x ∷ a) [] same p q = absurd (p.0 (same ∙ q))
channels_one bytes link other (x ∷ a) (y ∷ b) same p q =
    let one = channel_one bytes link x y p.1.0 q.1.0 p.1.1
    (subst (λ n. IsChannelAt bytes n y q.1.0) (sym same) q.1.1) in
    same_cons x y a b one.0 (channels_one bytes p.1.0 q.1.0 a b one.1 p.1.2 q.1.2)

listed_one : (bytes : List ℕ) (before : ℕ) (xs ys : List ListedData) (a b : List ℕ)
    → places_of xs ≡ places_of ys → AreListed bytes before xs a → AreListed bytes before ys b → a
    ≡ b
listed_one bytes before [] [] a b same p q = p ∙ sym q
listed_one bytes before [] (y ∷ ys) a b same p q = absurd (omega (arith, ap length same))
listed_one bytes before (x ∷ xs) [] a b same p q = absurd (omega (arith, ap length same))
listed_one bytes before (x ∷ xs) (y ∷ ys) a b same p q =
    let place : y.place ≡ x.place = sym (ap (λ ps. get_or ps 0 0) same) in
    let own = read_one_way bytes x.place (codes "##DT") [] p.0 (codes "##DT") [] q.0 p.4
    (subst (λ n. IsBlockAt bytes n (codes "##DT") [] q.0) place q.4) in
    let later : p.1 ≡ q.1 =
    listed_one bytes (before + length p.0) xs ys p.1 q.1 (ap (drop 1) same) p.5
    (subst (λ n. AreListed bytes (before + n) ys q.1) (sym (ap length own.2)) q.5) in
    p.2 ∙ ap (λ zs. zs ++ p.1) own.2 ∙ ap (λ zs. q.0 ++ zs) later ∙ sym q.2

list_one : (bytes : List ℕ) (at before : ℕ) (a b : List ℕ) (next later : ℕ)
    → IsListAt bytes at before a next → IsListAt bytes at before b later
    → (a ≡ b) × (next ≡ later)
list_one bytes at before a b next later p q =
    let same = read_one_way bytes at (codes "##DL") p.links p.body (codes "##DL") q.links q.body
    p.block q.block in (
      listed_one bytes before p.blocks q.blocks a b
          (sym p.says.places ∙ ap (drop 1) same.1 ∙ q.says.places) p.listed q.listed,
      sym p.says.next_is ∙ ap (λ ls. get_or ls 0 0) same.1 ∙ q.says.next_is,
    )

lists_one : (bytes : List ℕ) (before link other : ℕ) (a b : List (List ℕ)) → link ≡ other
    → AreLists bytes before link a → AreLists bytes before other b → a ≡ b
lists_one bytes before link other [] [] same p q = refl
lists_one bytes before link other [] (y ∷ b) same p q = absurd (q.0 (sym same ∙ p))
lists_one bytes before link other (x ∷ a) [] same p q = absurd (p.0 (same ∙ q))
lists_one bytes before link other (x ∷ a) (y ∷ b) same p q =
    let one = list_one bytes link before x y p.1.0 q.1.0 p.1.1
    (subst (λ n. IsListAt bytes n before y q.1.0) (sym same) q.1.1) in
    same_cons x y a b one.0
    (lists_one bytes (before + length x) p.1.0 q.1.0 a b one.1 p.1.2
    (subst (λ (zs : List ℕ). AreLists bytes (before + length zs) q.1.0 b) (sym one.0) q.1.2))

-- a data block is no list
not_both : (bytes : List ℕ) (link : ℕ) (records : List ℕ) (parts : List (List ℕ))
    → IsBlockAt bytes link (codes "##DT") [] records → link ≢ 0 → AreLists bytes 0 link parts → ⊥
not_both bytes link records [] p some q = some q
not_both bytes link records (x ∷ parts) p some q =
    let l = q.1.1 in
    let same = read_one_way bytes link (codes "##DT") [] records (codes "##DL") l.links l.body p
    l.block in
    omega (arith, ap (λ zs. get_or zs 3 0) same.0)

records_one : (bytes : List ℕ) (link : ℕ) (a b : List ℕ) → TellsRecords bytes link a
    → TellsRecords bytes link b → a ≡ b
records_one bytes link a b (inl p) (inl q) = p.1 ∙ sym q.1
records_one bytes link a b (inl p) (inr (inl q)) = absurd (q.0 p.0)
records_one bytes link a b (inl p) (inr (inr q)) = absurd (q.2 p.0)
records_one bytes link a b (inr (inl p)) (inl q) = absurd (p.0 q.0)
records_one bytes link a b (inr (inl p)) (inr (inl q)) =
    (read_one_way bytes link (codes "##DT") [] a (codes "##DT") [] b p.1 q.1).2
records_one bytes link a b (inr (inl p)) (inr (inr q)) =
    absurd (not_both bytes link a q.0 p.1 p.0 q.3)
records_one bytes link a b (inr (inr p)) (inl q) = absurd (p.2 q.0)
records_one bytes link a b (inr (inr p)) (inr (inl q)) =
    absurd (not_both bytes link b p.0 q.1 q.0 p.3)
records_one bytes link a b (inr (inr p)) (inr (inr q)) =
    p.1 ∙ ap concat (lists_one bytes 0 link link p.0 q.0 refl p.3 q.3) ∙ sym q.1

group_one : (bytes : List ℕ) (at : ℕ) (a b : ToldGroup) (next later : ℕ)
    → IsGroupAt bytes at a next → IsGroupAt bytes at b later → (a ≡ b) × (next ≡ later)
group_one bytes at a b next later p q =
    let same = read_one_way bytes at (codes "##DG") p.links p.body (codes "##DG") q.links q.body
    p.block q.block in
    let link = λ (n : ℕ). ap (λ ls. get_or ls n 0) same.1 in
    let place : p.group.channel_group ≡ q.group.channel_group =
    sym p.says.channel_group ∙ link 1 ∙ q.says.channel_group in
    let inner = read_one_way bytes p.group.channel_group (codes "##CG") p.inner_links p.inner_body
    (codes "##CG") q.inner_links q.inner_body p.inner_block
    (subst (λ n. IsBlockAt bytes n (codes "##CG") q.inner_links q.inner_body) (sym place)
    q.inner_block) in
    let inner_link = λ (n : ℕ). ap (λ ls. get_or ls n 0) inner.1 in
    let records : p.group.records ≡ q.group.records =
    sym p.says.records ∙ link 2 ∙ q.says.records in (
      same_group_parts a b
          (text_at bytes (codes "##TX") p.inner.acquisition_name q.inner.acquisition_name a.name
          b.name
          (sym p.inner_says.acquisition_name ∙ inner_link 2 ∙ q.inner_says.acquisition_name)
          p.name q.name)
          (channels_one bytes p.inner.first_channel q.inner.first_channel a.channels b.channels
          (sym p.inner_says.first_channel ∙ inner_link 1 ∙ q.inner_says.first_channel)
          p.channels q.channels)
          (p.record_bytes ∙ sym p.inner_says.record_bytes ∙ ap (uint32_at 24) inner.2
          ∙ q.inner_says.record_bytes ∙ sym q.record_bytes)
          (records_one bytes p.group.records a.records b.records p.records
          (subst (λ n. TellsRecords bytes n b.records) (sym records) q.records)),
      sym p.goes_on ∙ sym p.says.next ∙ link 0 ∙ q.says.next ∙ q.goes_on,
    )

groups_one : (bytes : List ℕ) (link other : ℕ) (a b : List ToldGroup) → link ≡ other
    → TellsGroups bytes link a → TellsGroups bytes other b → a ≡ b
groups_one bytes link other [] [] same p q = refl
groups_one bytes link other [] (y ∷ b) same p q = absurd (q.0 (sym same ∙ p))
groups_one bytes link other (x ∷ a) [] same p q = absurd (p.0 (same ∙ q))
groups_one bytes link other (x ∷ a) (y ∷ b) same p q =
    let one = group_one bytes link x y p.1.0 q.1.0 p.1.1
    (subst (λ n. IsGroupAt bytes n y q.1.0) (sym same) q.1.1) in
    same_cons x y a b one.0 (groups_one bytes p.1.0 q.1.0 a b one.1 p.1.2 q.1.2)

history_one : (bytes : List ℕ) (at : ℕ) (a b : ToldHistory) (next later : ℕ)
    → IsHistoryAt bytes at a next → IsHistoryAt bytes at b later → (a ≡ b) × (next ≡ later)
history_one bytes at a b next later p q =
    let same = read_one_way bytes at (codes "##FH") p.links p.body (codes "##FH") q.links q.body
    p.block q.block in
    let link = λ (n : ℕ). ap (λ ls. get_or ls n 0) same.1 in (
      same_history_parts a b
          (p.time
          ∙ time_one p.body p.history.time q.history.time p.says.time
          (subst (λ body. SaysTime body q.history.time) (sym same.2) q.says.time)
          ∙ sym q.time)
          (text_at bytes (codes "##MD") p.history.comment q.history.comment a.comment b.comment
          (sym p.says.comment ∙ link 1 ∙ q.says.comment) p.comment q.comment),
      sym p.goes_on ∙ sym p.says.next ∙ link 0 ∙ q.says.next ∙ q.goes_on,
    )

histories_one : (bytes : List ℕ) (link other : ℕ) (a b : List ToldHistory) → link ≡ other
    → TellsHistories bytes link a → TellsHistories bytes other b → a ≡ b
histories_one bytes link other [] [] same p q = refl
histories_one bytes link other [] (y ∷ b) same p q = absurd (q.0 (sym same ∙ p))
histories_one bytes link other (x ∷ a) [] same p q = absurd (p.0 (same ∙ q))
histories_one bytes link other (x ∷ a) (y ∷ b) same p q =
    let one = history_one bytes link x y p.1.0 q.1.0 p.1.1
    (subst (λ n. IsHistoryAt bytes n y q.1.0) (sym same) q.1.1) in
    same_cons x y a b one.0 (histories_one bytes p.1.0 q.1.0 a b one.1 p.1.2 q.1.2)

pub tells_one_thing : TellsOneThing
tells_one_thing bytes a b p q =
    let same = read_one_way bytes 64 (codes "##HD") p.links p.body (codes "##HD") q.links q.body
    p.block q.block in
    let link = λ (n : ℕ). ap (λ ls. get_or ls n 0) same.1 in
    same_file_parts a b
    (same_state a.state b.state (sym p.state.file ∙ q.state.file)
    (sym p.state.flags ∙ q.state.flags))
    (p.start
    ∙ time_one p.body p.header.start q.header.start p.says.start
    (subst (λ body. SaysTime body q.header.start) (sym same.2) q.says.start)
    ∙ sym q.start)
    (histories_one bytes p.header.first_history q.header.first_history a.histories b.histories
    (sym p.says.first_history ∙ link 1 ∙ q.says.first_history) p.histories q.histories)
    (groups_one bytes p.header.first_group q.header.first_group a.groups b.groups
    (sym p.says.first_group ∙ link 0 ∙ q.says.first_group) p.groups q.groups)
