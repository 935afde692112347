-- Maps of files into the list that was written.
use Rattle.std.proofs.Common.{◌≡◌, ◌+◌, ◌-◌, ℕ, suc, List, [], ◌∷◌, ◌++◌, length, map, drop, get_or, refl, sym, ap, ◌∙◌, subst, arith, inl, inr, length-append, length-drop, append-nil}
use Rattle.std.proofs.lemmas.Bool.{cases_lt}
use Rattle.std.proofs.lemmas.List.{get_or_append_left, get_or-append-add, get_or-drop, get_or-map, length-map, ext_get_or}
use Rattle.canonical_list.specs.Numbers.{AreNumbers}
use Rattle.type_trees.proofs.TreeLaws.{tree_there}
use Rattle.type_table.specs.Maps.{followed_by}
use Rattle.type_table.proofs.MapLaws.{numbers_follow}
use Rattle.file_types.specs.Read.{IsAccepted}
use Rattle.file_types.proofs.ReadLaws.{one_list}
use Rattle.pdb_merge.specs.Laws.{MapsFollow, MapOfMergedFile}
use Rattle.pdb_merge.specs.Union.{HasType, SameTypes}
use Rattle.pdb_merge.specs.Merging.{IsMapOf, AreMapsOf}
use Rattle.pdb_merge.specs.Merged.{merged_file, StandOnce}
use Rattle.pdb_merge.proofs.FileLaws.{earlier_merge, same_records}
use Rattle.pdb_merge.proofs.ReadBackLaws.{canon_types, is_back}

-- ---- the laws

-- a file has only one map into a list in which each type is at one position
one_map : (file : List ℕ) (list : List (List ℕ)) (numbers others : List ℕ) → StandOnce list → IsMapOf file list numbers → IsMapOf file list others → numbers ≡ others
one_map file list numbers others once (some, accepted, are) (found, is, these) =
    let same : some ≡ found = one_list file some found accepted is in
    let them : AreNumbers some list others = rw (← same) at these in
    ext_get_or 0 numbers others (are.many ∙ sym them.many) (λ i inside.
    let there = tree_there some accepted.types.ranked.0 i accepted.types.ranked.1 (omega (arith, inside, are.many)) in
    once (get_or numbers i 0) (get_or others i 0) there.0 (are.stand i there.0 there.1) (them.stand i there.0 there.1))

-- files have only these maps
one_maps : (files list maps others : List (List ℕ)) → StandOnce list → AreMapsOf files list maps → AreMapsOf files list others → maps ≡ others
one_maps files list maps others once are these =
    ext_get_or [] maps others (are.many ∙ sym these.many)
    (λ i inside. one_map (get_or files i []) list (get_or maps i []) (get_or others i []) once (are.each i (omega (arith, inside, are.many))) (these.each i (omega (arith, inside, are.many))))

-- the map into the first list, followed by that of its file
map_follows : (file written : List ℕ) (first second : List (List ℕ)) (numbers next : List ℕ) → IsAccepted written first → IsMapOf file first numbers → IsMapOf written second next → IsMapOf file second (followed_by numbers next)
map_follows file written first second numbers next back (records, accepted, are) (found, is, these) =
    let same : found ≡ first = one_list written found first is back in
    (records, accepted, numbers_follow records first second numbers next are (rw same at these))

pub maps_follow : MapsFollow
maps_follow settings are files others first second earlier later whole within canon maps canon_second next all =
    let written = merged_file settings first in
    let back = is_back files settings first are within canon in
    let own : List ℕ = get_or later 0 [] in
    let front = map (λ numbers. followed_by numbers own) earlier in
    let many_front = length-map earlier (λ numbers. followed_by numbers own) in
    let many_rest = length-drop 1 later in
    let follow : AreMapsOf (files ++ others) second (front ++ drop 1 later) = record {
      many = omega (arith, length-append front (drop 1 later), length-append files others, many_front, maps.many, next.many, many_rest);
      each = λ i inside. elim (cases_lt i (length files)) [
        | inl less ↦
            rw (get_or_append_left files others [] i less, get_or_append_left front (drop 1 later) [] i (omega (arith, less, many_front, maps.many)), get_or-map (λ numbers. followed_by numbers own) earlier i [] [] (omega (arith, less, maps.many)))
            (map_follows (get_or files i []) written first second (get_or earlier i []) own back.accepted (maps.each i less) (next.each 0 (omega arith)))
        | inr le ↦
            let k : ℕ = i - length files in
            let at : i ≡ length files + k = omega (arith, le) in
            let at_front : i ≡ length front + k = omega (arith, at, many_front, maps.many) in
            let here : get_or (files ++ others) i [] ≡ get_or others k [] = ap (λ j. get_or (files ++ others) j []) at ∙ get_or-append-add files others k [] in
            let one_more : 1 + k ≡ suc k = omega arith in
            let its : get_or (front ++ drop 1 later) i [] ≡ get_or later (suc k) [] =
            ap (λ j. get_or (front ++ drop 1 later) j []) at_front ∙ get_or-append-add front (drop 1 later) k [] ∙ get_or-drop 1 later k [] ∙ ap (λ j. get_or later j []) one_more in
            rw (here, its) (next.each (suc k) (omega (arith, inside, at, length-append files others)))
      ];
    } in
    one_maps (files ++ others) second whole (front ++ drop 1 later) (canon_types (HasType (files ++ others)) second canon_second).once all follow

pub map_of_merged_file : MapOfMergedFile
map_of_merged_file settings are files first second maps within canon canon_second all i inside =
    let written = merged_file settings first in
    let back = is_back files settings first are within canon in
    let types : SameTypes (written ∷ []) files = subst (SameTypes (written ∷ [])) (append-nil files) (earlier_merge settings are files [] written within (first, canon, refl)) in
    let same : second ≡ first = same_records (HasType (written ∷ [])) (HasType files) second first types canon_second canon in
    let own = all.each 0 (omega arith) in
    let records : own.0 ≡ first = one_list written own.0 first own.1 back.accepted in
    let these : AreNumbers first first (get_or maps 0 []) = rw (records, same) at own.2 in
    let there = tree_there first back.accepted.types.ranked.0 i back.accepted.types.ranked.1 inside in
    back.once (get_or (get_or maps 0 []) i 0) i there.0 (these.stand i there.0 there.1) there.1
