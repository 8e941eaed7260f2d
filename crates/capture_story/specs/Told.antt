-- The exchanges of a session that are told.
use Rattle.std.specs.Prelude.{List, [], ◌∷◌, Option, Some, None}
use Rattle.std.specs.Option.{option_copied}
use Rattle.captured_session.specs.Exchanges.{Exchange}
use Rattle.capture_story.specs.declared.exchange.Exchange.{Exchange as Line}

-- what is told with a packet
abbrev pub told : Option Line → List Exchange
told None = []
told (Some line) = (line.command.now, option_copied line.reply) ∷ []
