use Rattle.std.proofs.Common.{rules, ◌≡◌, List, ℕ, subst}
use Rattle.std.specs.List.{AllByRecursion}
use Rattle.cv_leaves.specs.Checks.{kind_of}
use Rattle.cv_leaves.specs.FieldList.{IsWholeMember}
use Rattle.cv_leaves.proofs.FieldListLaws.{members_whole, some_members}
use Rattle.cv_leaves.proofs.field_list.members.Goals as goal

pub returns-clause-whole : goal.returns-clause-whole
returns-clause-whole c =
    let r = c.args.record.now in
    let kind : kind_of r ≡ 0x1203 = search rules in
    let whole = subst (λ (xs : List (List ℕ)). AllByRecursion IsWholeMember xs) (some_members r kind) (members_whole r c.requires.checked c.requires.short) in
    rw c.body_of.ensures.bytes whole
