use Rattle.std.proofs.Common.{◌≡◌, ◌<◌, ◌≤◌, arith, get_or, length, subst, sym}
use Rattle.std.specs.Prelude.{slice_get, Some}
use Rattle.std.specs.Io.KnownBytes.{Appends}
use Rattle.std.proofs.KnownBytes.{Appends-nil, Appends-trans}
use Rattle.std.proofs.lemmas.Option.{slice_get-get_or}
use Rattle.csv.specs.Writing.{text_written}
use Rattle.copy_plan.specs.Config.{OdtEntry, odt}
use Rattle.sample_tables.specs.Rows.{entry_text}
use Rattle.sample_tables.proofs.PrintedLemmas.{enumerated_all, enumerated_more, enumerated_none}
use Rattle.sample_tables.proofs.sample_rows.write_odt.Goals as goal

-- no row yet
pub loop-e-init : goal.loop-e-init
loop-e-init g c = (
  c.requires,
  subst (λ t. Appends (text_written g.W.Write.contents c.args.rows.now) (text_written g.W.Write.contents c.args.rows.now) t)
      (sym (enumerated_none (entry_text c.args.shape.now c.args.at c.args.sample.now.sample c.args.k) (odt c.args.shape.now c.args.k))) (Appends-nil _),
)

-- the row of one entry more
pub loop-e-preserved : goal.loop-e-preserved
loop-e-preserved g c =
    let plan = c.args.shape.now in
    let f = entry_text plan c.args.at c.args.sample.now.sample c.args.k in
    let es = odt plan c.args.k in
    let e = c.loop-e.e in
    let within : e < length es = omega (arith, c.loop-e-test.true, c.entries-e-end.ensures) in
    let none : OdtEntry = (0, 0) in
    let entry : OdtEntry = get_or es e none in
    let at : slice_get es e ≡ Some entry = slice_get-get_or es e none within in
    let more = enumerated_more f es e entry at in (
      c.in_ok-write_entry.ensures.between,
      subst (λ t. Appends (text_written g.W.Write.contents c.args.rows.now) (text_written g.W.Write.contents c.write_entry.new.rows) t) (sym more)
          (Appends-trans _ _ _ _ _ c.loop-e.invariant.1 (c.in_ok-write_entry.ensures.text entry at)),
    )

-- those of all
pub returns-clause-text : goal.returns-clause-text
returns-clause-text g c =
    let plan = c.args.shape.now in
    let f = entry_text plan c.args.at c.args.sample.now.sample c.args.k in
    let all : length (odt plan c.args.k) ≤ c.loop-e.e = omega (arith, c.loop-e-test.false, c.entries-e-end.ensures) in
    subst (λ t. Appends (text_written g.W.Write.contents c.args.rows.now) (text_written g.W.Write.contents c.loop-e.rows) t)
    (enumerated_all f (odt plan c.args.k) c.loop-e.e all) c.loop-e.invariant.1
