use Rattle.std.proofs.Common.{◌∙◌, ◌++◌, ◌∷◌, [], ap, inl, map, refl, string_bytes, subst}
use Rattle.std.proofs.lemmas.Result.{err_from_is_err_and}
use Rattle.mdf_file.specs.Describing.{told_channel}
use Rattle.mdf_file.specs.Writing.{GainsGroup}
use Rattle.mdf_groups.proofs.FileLemmas.{refused_or_failed, same_file, unfailed}
use Rattle.mdf_groups.proofs.group_file.GroupFile.add_form.Goals as goal

-- the group and its form are added
pub returns : goal.returns
returns g c =
    rw (← c.self.view_is) (record {
      number = c.in_ok-number.ensures.number;
      ok = record {
        group =
            subst (λ n. GainsGroup c.self.inside.writer c.group.new.self (record {
              name = string_bytes c.args.name;
              channels = map told_channel c.args.channels.items;
              record_bytes = n;
              records = [];
            })) c.record_bytes-bytes.ensures c.in_ok-number.ensures.ok;
        forms =
            c.push_reserved.ensures.items
            ∙ ap (λ forms. forms ++ c.args.form ∷ []) c.reserve.ensures.items;
      };
      not_failed = unfailed _ _ c.in_ok-number.ensures.accepted;
      unfinished = c.in_ok-number.ensures.unfinished;
      err = tt;
    })

-- the file doesn't take the group
pub returns-in_err-number : goal.returns-in_err-number
returns-in_err-number g c =
    let p =
    err_from_is_err_and c.from_residual-in_err-number.result
    c.from_residual-in_err-number.ensures.1 in
    rw (p.1, p.2, ← c.self.view_is) (record {
      number = tt;
      ok = tt;
      not_failed = tt;
      unfinished = tt;
      err =
          refused_or_failed _ _ _ _ _ _ _ c.reserve.ensures.items c.in_err-number.ensures.refused
          c.in_err-number.ensures.err;
    })

-- there is no memory for the form
pub returns-in_err-reserve : goal.returns-in_err-reserve
returns-in_err-reserve g c =
    let p = err_from_is_err_and c.from_residual.result c.from_residual.ensures.1 in
    rw (p.1, ← c.self.view_is) (record {
      number = tt;
      ok = tt;
      not_failed = tt;
      unfinished = tt;
      err = inl (same_file _ _ _ _ refl c.reserve.ensures.items);
    })
