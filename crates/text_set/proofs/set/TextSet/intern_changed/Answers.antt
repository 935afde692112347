use Rattle.std.proofs.Common.{◌≡◌, ◌/◌, ◌^◌, ◌<◌, ◌+◌, ◌∙◌, ◌∷◌, ◌++◌, [], length, take, get_or, ap}
use Rattle.std.proofs.Math.Seq.{get_or-append_seam, take-append_seam}
use Rattle.text_set.proofs.TextSetLaws.{IsLookedUp, few_texts, found_text, same_long, placed, placed_few, placed_kept}
use Rattle.text_set.proofs.set.TextSet.intern_changed.Given.{Over}
use Rattle.text_set.proofs.set.TextSet.intern_changed.Goals.{After-truncate}
use Rattle.text_set.proofs.set.TextSet.intern_changed.Goals as goal

-- the text was put behind the others, and what it became was looked up among them
looked_up : (g : Over) (c : After-truncate g)
    → IsLookedUp (g.C.Change.makes c.args.change.now c.args.text.now)
    (λ x. g.S.Hasher.Hasher.finish (g.S.Hasher.Hasher.write (g.S.BuildHasher.build_hasher c.self.inside.hasher) x) / 2 ^ 32)
    c.args.text.now c.self.inside.texts c.place_last-found.new.texts c.len-last.result c.self.inside.keys.keys c.place_last-found.new.keys.keys c.place_last-found.result
looked_up g c =
    let before = c.self.inside.texts in
    let text = c.args.text.now in
    let last = c.len-last.result in
    let pushed = before ++ text ∷ [] in
    let front : take last c.push.new.self ≡ before = ap (take last) c.in_ok-push.ensures.ok ∙ ap (λ n. take n pushed) c.len-last.ensures ∙ take-append_seam before (text ∷ []) in
    let at : get_or c.push.new.self last [] ≡ text = ap (λ ts. get_or ts last []) c.in_ok-push.ensures.ok ∙ ap (λ n. get_or pushed n []) c.len-last.ensures ∙ get_or-append_seam before text [] [] in
    let e = rw (front, at) at c.place_last-found.ensures in
    record { others = e.others; many = e.many; made = e.made; long = c.requires.long; same = e.same; keyed = e.keyed; kept = e.kept; err = e.err }

few : (g : Over) (c : After-truncate g) → length c.self.inside.texts + 1 < 2 ^ 31
few g c = few_texts c.self.inside.texts c.args.text.now c.self.invariant.0 (rw (← c.self.view_is) at c.requires.few) c.requires.long

pub invariant_of-self-2 : goal.invariant_of-self-2
invariant_of-self-2 g c =
    let p = placed _ _ _ _ _ _ _ _ c.len-last.ensures c.self.invariant.1.each _ (looked_up g c) in
    rw (c.truncate.ensures, c.len.ensures.len) (placed_kept _ c.self.inside.texts _ c.self.inside.keys.keys _ _ p c.self.invariant.0 c.self.invariant.1 (few g c))

pub returns-clause-found : goal.returns-clause-found
returns-clause-found g c =
    rw (c.truncate.ensures, c.len.ensures.len, ← c.self.view_is) (found_text _ _ _ _ _ _ _ _ c.len-last.ensures c.self.invariant.1.each _ (looked_up g c))

pub returns-clause-small : goal.returns-clause-small
returns-clause-small g c =
    rw (c.truncate.ensures, c.len.ensures.len) (placed_few _ _ _ _ _ _ (placed _ _ _ _ _ _ _ _ c.len-last.ensures c.self.invariant.1.each _ (looked_up g c)) (few g c))

pub returns-clause-same : goal.returns-clause-same
returns-clause-same g c = rw (c.truncate.ensures, c.len.ensures.len) (same_long _ _ _ _ _ _ _ _ c.len-last.ensures c.self.invariant.1.each _ (looked_up g c))
