use Rattle.std.proofs.Common.{rules, ◌∙◌, ◌++◌, [], ◌∷◌, ℕ, List, ap, map, string_bytes}
use Rattle.std.specs.Prelude.{◌≢◌}
use Rattle.std.proofs.lemmas.List.{append_assoc}
use Rattle.command_line.proofs.ListLaws.{leads_on}
use Rattle.command_line.proofs.list.push_paths.Goals as goal

pub loop-left-preserved : goal.loop-left-preserved
loop-left-preserved c =
    let it = c.loop-left.invariant in
    let left = c.loop-left.left.now in
    let path = c.split_line.result.0.now in
    let some : left ≢ [] = search rules in
    let whole = leads_on c.args.end c.args.list.now it.0 left path c.split_line.result.1.now it.1 some c.split_line.ensures.line in
    (it.0 ++ path ∷ [], whole, c.in_ok-push_path.ensures.value ∙ ap (λ (x : List (List ℕ)). x ++ path ∷ []) it.2 ∙ append_assoc (map string_bytes c.args.paths.now.items) it.0 (path ∷ []))
