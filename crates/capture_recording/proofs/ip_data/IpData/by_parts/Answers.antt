use Rattle.std.proofs.Common.{subst}
use Rattle.datagrams.specs.Waiting.{WholeOf}
use Rattle.capture_recording.specs.Said.{IsBehind}
use Rattle.capture_recording.specs.Talks.{data_of}
use Rattle.capture_recording.proofs.ChainLemmas.{same-whole}
use Rattle.capture_recording.proofs.ip_data.IpData.by_parts.Goals as goal

pub returns : goal.returns
returns c =
    subst (λ (d : WholeOf). IsBehind d (data_of c.behind_extensions.result))
    (same-whole _ _ _ _ _ _ _ c.deref.ensures.value c.deref-2.ensures.value c.deref-3.ensures.value) c.behind_extensions.ensures
