use Rattle.std.proofs.Common.{◌≡◌, ◌∙◌, ◌++◌, ◌∷◌, [], List, ℕ, ap, length, refl, rules, sym}
use Rattle.std.proofs.lemmas.List.{map-append}
use Rattle.tpi_records.specs.Records.{records_in}
use Rattle.tpi_records.proofs.CutLaws.{none_in}
use Rattle.pdbmerge_c.proofs.ReferenceLaws.{front_all, front_more, named_more}
use Rattle.pdbmerge_c.proofs.all_references.list_records.Goals as goal

pub loop-left-init : goal.loop-left-init
loop-left-init c = record {
  front = [];
  places = [];
  parts = refl;
  checked = c.requires.checked;
  named = search rules;
  counted = search rules;
  framed = c.requires.framed;
}

pub loop-left-preserved : goal.loop-left-preserved
loop-left-preserved c =
    let so_far = c.loop-left.invariant in
    let lists = c.loop-left.lists in
    let first = c.split_record.result.0.now in
    let split = c.split_record.ensures in
    let (here, has, named, counted) = c.in_ok-push_record.ensures in
    record {
      front = so_far.front ++ first ∷ [];
      places = so_far.places ++ here ∷ [];
      parts = front_more so_far.front (records_in c.loop-left.left.now) (records_in c.args.bytes.now) first (records_in c.split_record.result.1.now) so_far.parts split.records;
      checked = (rw split.records at so_far.checked).1;
      named = rw named (named_more so_far.front so_far.places lists.references.items first here so_far.named has);
      counted = counted ∙ ap (λ (t : List ℕ). t ++ length here ∷ []) so_far.counted ∙ sym (map-append (length {A = ℕ}) so_far.places (here ∷ []));
      framed = split.framed;
    }

pub returns : goal.returns
returns c =
    let so_far = c.loop-left.invariant in
    let left = c.loop-left.left.now in
    let empty : length left ≡ 0 = search rules in
    let all = front_all so_far.front (records_in left) (records_in c.args.bytes.now) so_far.parts (none_in left empty) in
    (so_far.places, rw all at so_far.named, so_far.counted)
