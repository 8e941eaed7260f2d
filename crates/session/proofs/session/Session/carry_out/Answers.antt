use Rattle.std.proofs.Common.{ℕ, List, subst}
use Rattle.std.proofs.lemmas.List.{take_rest}
use Rattle.session.specs.Requests.{writes}
use Rattle.session.specs.Standing.{WritesAll}
use Rattle.session.proofs.session.Session.carry_out.Goals as goal

-- a request is answered as the function says that carries it out
pub returns-in-Disconnect-clause-ok : goal.returns-in-Disconnect-clause-ok
returns-in-Disconnect-clause-ok c = rw c.in-Disconnect.is c.disconnect.ensures.reply

pub returns-in-Upload-clause-ok : goal.returns-in-Upload-clause-ok
returns-in-Upload-clause-ok c = rw c.in-Upload.is c.upload.ensures.reply

pub returns-in-GetId-clause-ok : goal.returns-in-GetId-clause-ok
returns-in-GetId-clause-ok c = rw c.in-GetId.is c.id.ensures.reply

pub returns-in-SetMta-clause-ok : goal.returns-in-SetMta-clause-ok
returns-in-SetMta-clause-ok c = rw c.in-SetMta.is c.set_mta.ensures.reply

pub returns-in-ShortUpload-clause-ok : goal.returns-in-ShortUpload-clause-ok
returns-in-ShortUpload-clause-ok c = rw c.in-ShortUpload.is c.short_upload.ensures.reply

pub returns-in-GetDaqEventInfo-clause-ok : goal.returns-in-GetDaqEventInfo-clause-ok
returns-in-GetDaqEventInfo-clause-ok c = rw c.in-GetDaqEventInfo.is c.event_info.ensures.reply

pub returns-in-Lists-clause-ok : goal.returns-in-Lists-clause-ok
returns-in-Lists-clause-ok c = rw c.in-Lists.is c.set_lists.ensures.ok

-- the others leave the session as it was
pub returns-in-Connect-clause-ok : goal.returns-in-Connect-clause-ok
returns-in-Connect-clause-ok c = λ past stands. rw c.in-Connect.is (c.connect_again.ensures.reply past stands, stands)

pub returns-in-GetStatus-clause-ok : goal.returns-in-GetStatus-clause-ok
returns-in-GetStatus-clause-ok c = λ past stands. rw c.in-GetStatus.is (c.status.ensures.reply past stands, stands)

pub returns-in-GetDaqListMode-clause-ok : goal.returns-in-GetDaqListMode-clause-ok
returns-in-GetDaqListMode-clause-ok c = λ past stands. rw c.in-GetDaqListMode.is (c.list_mode.ensures.reply past stands, stands)

pub returns-in-GetDaqProcessorInfo-clause-ok : goal.returns-in-GetDaqProcessorInfo-clause-ok
returns-in-GetDaqProcessorInfo-clause-ok c = λ past stands. rw c.in-GetDaqProcessorInfo.is (c.processor_info.ensures.reply past stands, stands)

pub returns-in-GetDaqResolutionInfo-clause-ok : goal.returns-in-GetDaqResolutionInfo-clause-ok
returns-in-GetDaqResolutionInfo-clause-ok c = λ past stands. rw c.in-GetDaqResolutionInfo.is (c.resolution_info.ensures.reply past stands, stands)

pub returns-in-GetDaqListInfo-clause-ok : goal.returns-in-GetDaqListInfo-clause-ok
returns-in-GetDaqListInfo-clause-ok c = λ past stands. rw c.in-GetDaqListInfo.is (c.list_info.ensures.reply past stands, stands)

pub returns-in-Synch-clause-ok : goal.returns-in-Synch-clause-ok
returns-in-Synch-clause-ok c = λ past stands. rw c.in-Synch.is (c.error.ensures, stands)

pub returns-in-GetCommModeInfo-clause-ok : goal.returns-in-GetCommModeInfo-clause-ok
returns-in-GetCommModeInfo-clause-ok c = λ past stands. rw c.in-GetCommModeInfo.is (c.positive.ensures, stands)

pub returns-in-WriteDaqMultiple-clause-ok : goal.returns-in-WriteDaqMultiple-clause-ok
returns-in-WriteDaqMultiple-clause-ok c =
    let P : List ℕ → Type 0 = λ bytes. WritesAll c.args.self.now c.write_multiple.new.self (writes c.in-WriteDaqMultiple.count bytes) c.write_multiple.result in
    rw c.in-WriteDaqMultiple.is (subst P (take_rest c.args.packet.now 2) c.write_multiple.ensures.reply)
