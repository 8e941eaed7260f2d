use Rattle.mdf_groups.proofs.LawLemmas.{record_is_long}
use Rattle.mdf_groups.proofs.laws.have_one_length.Goals as goal

-- the bytes are counted part by part
pub returns : goal.returns
returns c = λ form at mark sample is long.
    record_is_long form.front form.sample_bytes at mark sample form.own is long
