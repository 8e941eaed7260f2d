use Rattle.std.proofs.Common.{inl, refl}
use Rattle.std.proofs.lemmas.Result.{err_from_is_err_and}
use Rattle.mdf_groups.proofs.FileLemmas.{file_is_no_record, form_there, not_there, ok_is_no_fault}
use Rattle.mdf_groups.proofs.FileLemmas.{record_gained, refused_or_failed, same_fault, unfailed}
use Rattle.mdf_groups.proofs.group_file.GroupFile.sample.Goals as goal
use Rattle.mdf_groups.specs.Records.{record_of}

-- the record is that of the sample
pub returns : goal.returns
returns g c =
    let form = c.in-Some.form.now in
    let lookup = c.in-Some.ensures.lookup in
    let there =
    form_there c.self.inside.forms.items c.deref.result.now c.args.group form c.deref.ensures.value
    lookup.3.0 lookup.1 in
    let gains =
    record_gained c.self.inside.writer c.record.new.self c.args.group c.clear.new.self.items
    c.write_record.new.out.items c.deref-2.result.now
    (record_of form.own c.args.time c.args.mark c.args.sample.now) c.clear.ensures.items
    c.in_ok-write_record.ensures.ok c.deref-2.ensures.value c.in_ok-record.ensures.ok in
    rw (← c.self.view_is) (record {
      ok = record {
        form = form;
        there = there;
        right_time = c.in_ok-write_record.ensures.right_time;
        right_length = c.in_ok-write_record.ensures.right_length;
        gains = gains;
        forms = refl;
      };
      not_failed = unfailed _ _ c.in_ok-record.ensures.accepted;
      unfinished = c.in_ok-record.ensures.unfinished;
      no_group = λ none. absurd (not_there c.self.inside.forms.items c.args.group form there none);
      wrong_time = λ is. absurd (ok_is_no_fault _ _ is);
      wrong_length = λ is. absurd (ok_is_no_fault _ _ is);
      err = tt;
    })

-- the file doesn't take the record
pub returns-in_err-record : goal.returns-in_err-record
returns-in_err-record g c =
    let form = c.in-Some.form.now in
    let lookup = c.in-Some.ensures.lookup in
    let there =
    form_there c.self.inside.forms.items c.deref.result.now c.args.group form c.deref.ensures.value
    lookup.3.0 lookup.1 in
    let p =
    err_from_is_err_and c.from_residual-in_err-record.result
    c.from_residual-in_err-record.ensures.1 in
    rw (p.1, p.2, ← c.self.view_is) (record {
      ok = tt;
      not_failed = tt;
      unfinished = tt;
      no_group = λ none. absurd (not_there c.self.inside.forms.items c.args.group form there none);
      wrong_time = λ is. absurd (file_is_no_record _ _ _ is);
      wrong_length = λ is. absurd (file_is_no_record _ _ _ is);
      err =
          refused_or_failed _ _ _ _ _ _ _ refl c.in_err-record.ensures.refused
          c.in_err-record.ensures.err;
    })

-- the sample isn't one of the group
pub returns-in_err-write_record : goal.returns-in_err-write_record
returns-in_err-write_record g c =
    let form = c.in-Some.form.now in
    let lookup = c.in-Some.ensures.lookup in
    let there =
    form_there c.self.inside.forms.items c.deref.result.now c.args.group form c.deref.ensures.value
    lookup.3.0 lookup.1 in
    let p = err_from_is_err_and c.from_residual.result c.from_residual.ensures.1 in
    rw (p.1, p.2, ← c.self.view_is) (record {
      ok = tt;
      not_failed = tt;
      unfinished = tt;
      no_group = λ none. absurd (not_there c.self.inside.forms.items c.args.group form there none);
      wrong_time =
          λ is. rw there (c.in_err-write_record.ensures.wrong_time (same_fault _ _ _ is));
      wrong_length =
          λ is. rw there (c.in_err-write_record.ensures.wrong_length (same_fault _ _ _ is));
      err = inl refl;
    })
