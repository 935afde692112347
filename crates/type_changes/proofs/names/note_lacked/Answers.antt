use Rattle.std.proofs.Common.{rules, ◌≡◌, ◌+◌, ◌∷◌, ◌∙◌, List, ℕ, [], ap, get_or}
use Rattle.std.specs.Prelude.{◌≢◌, nat_eq}
use Rattle.std.specs.List.{Contains}
use Rattle.indexmap.proofs.CallerLemmas.{Contains-insert_key}
use Rattle.std.proofs.lemmas.Bool.{eqb-true}
use Rattle.type_difference.specs.declared.standing.Standing.TheVariants.{Shared}
use Rattle.type_expressions.proofs.AskedLaws.{next_checked}
use Rattle.type_changes.specs.Definition.{Key, key_of}
use Rattle.type_changes.proofs.NameLaws.{kept_insert, next_holds}
use Rattle.type_changes.proofs.names.note_lacked.Goals as goal
use Rattle.type_changes.proofs.names.note_lacked.Goals.{then-ne+in_ok-insert, else-ne}

pub loop-position-preserved : goal.loop-position-preserved
loop-position-preserved g c =
    let so_far = c.loop-position.invariant in
    let k = c.loop-position.position in
    let records = c.args.types.now in
    let standings = c.args.standings.now in
    let r = c.in-Some.record.now in
    let before = c.loop-position.names.keys in
    let names = c.if-ne.names.keys in
    let h = λ (x : List ℕ). g.S.Hasher.Hasher.finish (g.S.Hasher.Hasher.write (g.S.BuildHasher.build_hasher c.args.hasher.now) x) in
    let split : c.loop-position.records ≡ r ∷ c.next.new.self = search rules in
    let next = next_checked records k c.loop-position.records c.next.new.self r c.len-position-end.ensures.types so_far.left split in
    let keep : (n : ℕ) → Contains before n → Contains names n = λ n is. elim c.if-ne.branch [
      | then-ne+in_ok-insert w ↦ rw (w.names-is, w.in_ok-insert.ensures.keys) (kept_insert before _ n is)
      | else-ne w ↦ rw w.names-is is
    ] in
    let here : (get_or standings k Shared ≢ Shared) → Contains names (h (key_of (get_or records k [])).name) = λ differs. elim c.if-ne.branch [
      | then-ne+in_ok-insert w ↦
          let name : w.of.result.name.now ≡ (key_of (get_or records k [])).name = ap (λ (key : Key). key.name) w.of.ensures ∙ ap (λ (x : List ℕ). (key_of x).name) next.1 in
          let hash : w.hash_of.result ≡ h (key_of (get_or records k [])).name = w.hash_of.ensures ∙ ap h name in
          rw (w.names-is, w.in_ok-insert.ensures.keys, ← hash) (Contains-insert_key nat_eq eqb-true before w.hash_of.result)
      | else-ne w ↦ absurd (differs (search rules))
    ] in
    record {
      left = next.3;
      kept = λ n is. keep n (so_far.kept n is);
      noted = next_holds (λ i. (get_or standings i Shared ≢ Shared) → Contains names (h (key_of (get_or records i [])).name)) k (λ i below differs. keep _ (so_far.noted i below differs)) here;
    }
