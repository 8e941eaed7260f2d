use Rattle.std.proofs.Common.{◌≡◌, ◌<◌, ◌∙◌, List, ap, length, subst, sym}
use Rattle.std.specs.Prelude.{slice_get}
use Rattle.std.proofs.lemmas.Option.{same_Some}
use Rattle.tasks.specs.Links.{hand_refusal}
use Rattle.slave_channels.specs.Channels.{AnswersOpen, ChannelState}
use Rattle.daq_engine.proofs.AskingLemmas.{on_err, on_ok}
use Rattle.slave_channels.proofs.EachLemmas.{only-set, read_at, set_back}
use Rattle.slave_channels.proofs.channels.Channels.open_at.Goals as goal

-- it is that channel
pub returns-clause-answer : goal.returns-clause-answer
returns-clause-answer c x at some =
    let v = c.self.view_is in
    let old = c.index_mut-channel.result.now in
    let here : c.args.c < length c.self.inside.all.items = subst (λ (xs : List ChannelState). c.args.c < length xs) (sym v) c.requires.channel in
    let same : old ≡ x =
    same_Some old x
    (sym (read_at c.self.inside.all.items c.args.c old c.index_mut-channel.ensures.value here) ∙ ap (λ (xs : List ChannelState). slice_get xs c.args.c) v ∙ at) in
    subst (λ (y : ChannelState). AnswersOpen (hand_refusal y.link) c.open_one.result) same (c.open_one.ensures.answer some)

-- only that channel was opened
pub returns-clause-ok : goal.returns-clause-ok
returns-clause-ok c =
    on_ok c.open_one.result (only-set _ c.args.c _ _ c.index_mut-channel.result.now c.open_one.new.channel c.self.view_is c.index_mut-channel.ensures.value c.requires.channel) (rw c.at.ensures at c.open_one.ensures.ok)

-- or it is as it was
pub returns-clause-err : goal.returns-clause-err
returns-clause-err c =
    on_err c.open_one.result (λ same. set_back c.self.inside.all.items c.args.c c.index_mut-channel.result.now c.open_one.new.channel c.index_mut-channel.ensures.value same ∙ c.self.view_is) c.open_one.ensures.err
