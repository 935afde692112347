use Rattle.std.proofs.Common.{◌<◌, ◌*◌, ◌∙◌, [], ◌∷◌, ap, arith, get_or, length, refl, rules, sym}
use Rattle.packed_texts.proofs.PackedLaws.{many_texts, text_at}
use Rattle.packed_texts.proofs.WrittenLaws.{written_in}
use Rattle.packed_texts.proofs.PackedTexts.get_mut.Goals as goal

pub returns : goal.returns
returns g c =
    let p = c.self.inside in
    let k = c.args.position in
    let rise = c.self.invariant.rise in
    let inside : k < length p.ends.items = omega (arith, c.requires.inside, ap length c.self.view_is, many_texts p.bytes.items p.ends.items) in
    let start = ap (λ n. 4 * n) (c.row_start-start.ensures.value ∙ ap (λ w. get_or (0 ∷ w) k 0) c.deref.ensures.value) in
    let end = ap (λ n. 4 * n) (c.row_end-end.ensures.value ∙ ap (λ w. get_or w k 0) c.deref-2.ensures.value) in (
      (refl {a = c.run_mut.result.ghost_name}, λ w. written_in p.bytes.items p.ends.items c.args.self.now k _ p.bytes.len w (sym c.self.view_is) rise c.requires.inside start (search rules)),
      record {
        writes_back = tt;
        value = c.run_mut.ensures.value ∙ text_at p.bytes.items p.ends.items k _ _ rise inside start end ∙ ap (λ ts. get_or ts k []) c.self.view_is;
      },
    )
