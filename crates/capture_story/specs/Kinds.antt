-- What packets are (ASAM MCD-1 XCP, protocol layer, packet identifiers).
use Rattle.std.specs.Prelude.{ℕ, ◌==◌, List, [], ◌∷◌, if◌then◌else◌}
use Rattle.captured_session.specs.Exchanges.{is_command, is_reply}
use Rattle.captured_session.specs.declared.side.Side.{Side}
use Rattle.captured_session.specs.declared.side.Side.TheVariants.{Master, Slave}
use Rattle.capture_story.specs.declared.frame_kind.FrameKind.{FrameKind}
use Rattle.capture_story.specs.declared.frame_kind.FrameKind.TheVariants.{Command, Stim, Reply}
use Rattle.capture_story.specs.declared.frame_kind.FrameKind.TheVariants.{Event, Service, Samples}

-- of a slave, but for a reply
abbrev pub told_unasked : List ℕ → FrameKind
told_unasked [] = Samples
told_unasked (code ∷ _) =
    if code == 0xFD then Event else (if code == 0xFC then Service else Samples)

abbrev pub kind_of : Side → List ℕ → FrameKind
kind_of Master p = if is_command p then Command else Stim
kind_of Slave p = if is_reply p then Reply else told_unasked p
