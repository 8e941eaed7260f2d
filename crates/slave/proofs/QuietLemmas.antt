-- While no master is connected, no list runs.
use Rattle.std.proofs.Common.{◌≡◌, ℕ, ◌&&◌, Bool, true, false, true≢false, if◌then◌else◌, List, [], ◌∷◌, refl, sym, ◌∙◌}
use Rattle.std.specs.Prelude.{Result, Ok, Err}
use Rattle.xcp_base.specs.declared.err_code.ErrCode.{ErrCode}
use Rattle.session.specs.Exchanges.{Exchange, is_greeting, past_after, past_after_greeting, past_after_packet, past_after_read, past_behind}
use Rattle.session.specs.Past.{Given, Past, new_past}
use Rattle.session.specs.Requests.{request}
use Rattle.session.specs.declared.profile.Profile.{Profile}
use Rattle.session.specs.declared.request.Request.{Request}
use Rattle.session.specs.declared.request.Request.TheVariants.{Connect, Disconnect, GetCommModeInfo, GetDaqClock, GetDaqEventInfo, GetDaqListInfo, GetDaqListMode, GetDaqProcessorInfo, GetDaqResolutionInfo, GetId, GetStatus, Lists, SetMta, ShortUpload, Synch, Upload, WriteDaqMultiple}
use Rattle.slave.specs.Log.{Act, CameBack, Discarded, Heard, HungUp, Opened, Refused, Sent, Took, past_of}
use Rattle.slave.specs.Standing.{NoneRuns}

and-false : (b : Bool) → (b && false) ≡ false
and-false true = refl
and-false false = refl

pub none-new : NoneRuns new_past
none-new l below = and-false _

-- no list runs where no master is connected
abbrev IsQuiet : Past → Type 0
IsQuiet past = past.connected ≡ false → NoneRuns past

quiet-on : (past : Past) → past.connected ≡ true → IsQuiet past
quiet-on past on off = absurd (true≢false (sym on ∙ off))

quiet-asked : (d : Profile) (past : Past) (given : Given) (packet : List ℕ) (asked : Request) → past.connected ≡ true → IsQuiet (past_after d past given packet asked)
quiet-asked d past given packet Disconnect on = λ off. none-new
quiet-asked d past given packet (GetId kind) on = λ off. absurd (true≢false (sym on ∙ off))
quiet-asked d past given packet (SetMta ext addr) on = λ off. absurd (true≢false (sym on ∙ off))
quiet-asked d past given packet (Upload n) on = λ off. absurd (true≢false (sym on ∙ off))
quiet-asked d past given packet (ShortUpload n ext addr) on = λ off. absurd (true≢false (sym on ∙ off))
quiet-asked d past given packet (GetDaqEventInfo c) on = λ off. absurd (true≢false (sym on ∙ off))
quiet-asked d past given packet (WriteDaqMultiple n) on = λ off. absurd (true≢false (sym on ∙ off))
quiet-asked d past given packet (Lists call) on = λ off. absurd (true≢false (sym on ∙ off))
quiet-asked d past given packet (Connect mode) on = quiet-on past on
quiet-asked d past given packet GetStatus on = quiet-on past on
quiet-asked d past given packet Synch on = quiet-on past on
quiet-asked d past given packet GetCommModeInfo on = quiet-on past on
quiet-asked d past given packet (GetDaqListMode l) on = quiet-on past on
quiet-asked d past given packet GetDaqClock on = quiet-on past on
quiet-asked d past given packet GetDaqProcessorInfo on = quiet-on past on
quiet-asked d past given packet GetDaqResolutionInfo on = quiet-on past on
quiet-asked d past given packet (GetDaqListInfo l) on = quiet-on past on

quiet-read : (d : Profile) (past : Past) (given : Given) (packet : List ℕ) (read : Result Request ErrCode) → past.connected ≡ true → IsQuiet (past_after_read d past given packet read)
quiet-read d past given packet (Ok asked) on = quiet-asked d past given packet asked on
quiet-read d past given packet (Err code) on = quiet-on past on

quiet-greeting : (past : Past) (read : Result Request ErrCode) → IsQuiet past → IsQuiet (past_after_greeting past read)
quiet-greeting past read was = by (is_greeting read) where
  by : (b : Bool) → IsQuiet (if b then record past { connected = true } else past)
  by true = λ off. absurd (true≢false off)
  by false = was

quiet-packet : (d : Profile) (past : Past) (given : Given) (packet : List ℕ) → IsQuiet past → IsQuiet (past_after_packet d past given packet)
quiet-packet d past given packet was = by past.connected refl where
  by : (b : Bool) → past.connected ≡ b → IsQuiet (if b then past_after_read d past given packet (request d.max_cto packet) else past_after_greeting past (request d.max_cto packet))
  by true on = quiet-read d past given packet (request d.max_cto packet) on
  by false off = quiet-greeting past (request d.max_cto packet) was

quiet-behind : (d : Profile) (past : Past) (x : Exchange) → IsQuiet past → IsQuiet (past_behind d past x)
quiet-behind d past x was = by x.out_of_memory where
  by : (b : Bool) → IsQuiet (if b then past else past_after_packet d past x.given x.packet)
  by true = was
  by false = quiet-packet d past x.given x.packet was

pub quiet : (d : Profile) (log : List Act) → (past_of d log).connected ≡ false → NoneRuns (past_of d log)
quiet d [] = λ off. none-new
quiet d (Heard x ∷ log) = quiet-behind d (past_of d log) x (quiet d log)
quiet d (Refused packet code ∷ log) = quiet d log
quiet d (Opened at ∷ log) = quiet d log
quiet d (Took m c x ∷ log) = quiet d log
quiet d (CameBack m c past ∷ log) = quiet d log
quiet d (Sent n ∷ log) = quiet d log
quiet d (HungUp ∷ log) = λ off. none-new
quiet d (Discarded ∷ log) = quiet d log
