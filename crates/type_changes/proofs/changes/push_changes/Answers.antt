use Rattle.std.proofs.Common.{◌≡◌, ◌∙◌, map}
use Rattle.type_changes.specs.Definition.{definitions}
use Rattle.type_changes.specs.Lone.{distinct, lone}
use Rattle.type_changes.specs.Seen.{seen, seen_at}
use Rattle.type_changes.proofs.ChangeLaws.{lone_is}
use Rattle.type_changes.proofs.changes.push_changes.Goals as goal

pub returns : goal.returns
returns g c = λ trees others are other_are.
    let texts = c.push_both.new.text.items in
    let ours = map (seen_at texts) c.in_ok-places.places.first.items in
    let theirs = map (seen_at texts) c.in_ok-places.places.second.items in
    let known = c.in_ok-places.ensures.lone trees others are other_are in
    let olds : map seen c.in_ok-olds.olds.keys ≡ distinct ours = rw (c.deref.ensures.value, c.deref-2.ensures.value) at c.in_ok-olds.ensures in
    let news : map seen c.in_ok-news.news.keys ≡ distinct theirs = rw (c.deref-3.ensures.value, c.deref-4.ensures.value) at c.in_ok-news.ensures in
    let gone : map seen c.in_ok-gone.gone.items ≡ lone (definitions trees) (definitions others) =
    lone_is ours theirs (map seen c.in_ok-olds.olds.keys) (map seen c.in_ok-news.news.keys) (map seen c.in_ok-gone.gone.items) olds news c.in_ok-gone.ensures ∙ known.gone in
    let come : map seen c.in_ok-come.come.items ≡ lone (definitions others) (definitions trees) =
    lone_is theirs ours (map seen c.in_ok-news.news.keys) (map seen c.in_ok-olds.olds.keys) (map seen c.in_ok-come.come.items) news olds c.in_ok-come.ensures ∙ known.come in
    rw (← gone, ← come) (rw (c.deref-5.ensures.value, c.deref-6.ensures.value) at c.push_between.ensures)
