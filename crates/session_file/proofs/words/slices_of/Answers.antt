use Rattle.std.proofs.Common.{◌≡◌, ◌++◌, ◌∷◌, [], Some, None, map, option_map, vec_items, sym, ap, ◌∙◌, rules}
use Rattle.run_file.specs.StepOf.{words_of}
use Rattle.run_file.proofs.ReadLemmas.{map-push}
use Rattle.session_file.specs.LineOf.{slice_of, slices_of}
use Rattle.session_file.proofs.SliceLemmas.{slices_more, slices_none, slices_whole}
use Rattle.session_file.proofs.words.slices_of.Goals as goal

-- one more slice was read
pub loop-word-preserved : goal.loop-word-preserved
loop-word-preserved c =
    let at = c.loop-word in
    let slice = c.in-Some-2.slice in
    let read : Some (vec_items slice) ≡ slice_of c.in-Some.word.now = ap (option_map vec_items) (sym c.in-Some-2.is) ∙ c.in_ok-slice.ensures in
    let pushed : c.push.new.self.items ≡ at.slices.items ++ slice ∷ [] = search (rules, c.push.ensures.items) in (
      search rules,
      slices_more (map vec_items at.slices.items) (map vec_items c.push.new.self.items) (vec_items slice) c.in-Some.word.now (words_of at.rest.now) (words_of c.in-Some.behind.now)
          (slices_of (words_of c.args.text.now)) (ap (map vec_items) pushed ∙ map-push vec_items at.slices.items slice) read c.in-Some.ensures at.invariant.1,
    )

-- a word is no slice
pub returns-in_default-2 : goal.returns-in_default-2
returns-in_default-2 c =
    let at = c.loop-word in
    let none : None ≡ slice_of c.in-Some.word.now = ap (option_map vec_items) (sym c.in_default-2.is) ∙ c.in_ok-slice.ensures in
    slices_none (map vec_items at.slices.items) c.in-Some.word.now (words_of at.rest.now) (words_of c.in-Some.behind.now) (slices_of (words_of c.args.text.now))
    none c.in-Some.ensures at.invariant.1

-- the last word is none
pub returns-in_default-3 : goal.returns-in_default-3
returns-in_default-3 c =
    let at = c.loop-word in
    let none : None ≡ slice_of at.rest.now = ap (option_map vec_items) (sym c.in_default-3.is) ∙ c.in_ok-last.ensures in
    slices_none (map vec_items at.slices.items) at.rest.now (words_of at.rest.now) [] (slices_of (words_of c.args.text.now)) none c.in_default.ensures at.invariant.1

-- all were read
pub returns : goal.returns
returns c =
    let at = c.loop-word in
    let last = c.in-Some-3.last in
    let read : Some (vec_items last) ≡ slice_of at.rest.now = ap (option_map vec_items) (sym c.in-Some-3.is) ∙ c.in_ok-last.ensures in
    let pushed : c.push-2.new.self.items ≡ at.slices.items ++ last ∷ [] = search (rules, c.push-2.ensures.items) in
    slices_whole (map vec_items at.slices.items) (map vec_items c.push-2.new.self.items) (vec_items last) at.rest.now (words_of at.rest.now) (slices_of (words_of c.args.text.now))
    (ap (map vec_items) pushed ∙ map-push vec_items at.slices.items last) read c.in_default.ensures at.invariant.1
