use Rattle.std.proofs.Common.{◌≡◌, ◌∷◌, arith, get_or, rules, string_bytes}
use Rattle.std.proofs.lemmas.Bool.{both_ways}
use Rattle.type_difference.specs.declared.standing.Standing.TheVariants.{Shared}
use Rattle.type_trees.proofs.DepthLaws.{next_record}
use Rattle.output_lines.proofs.DifferenceLaws.{line_shown, line_hidden, shown_whole, standing_shown, standing_hidden}
use Rattle.output_lines.specs.Difference.{IsShown}
use Rattle.output_lines.proofs.difference.push_shown.Goals as goal
use Rattle.output_lines.proofs.difference.push_shown.Goals.{then-is_shown+in_ok-push_signed, else-is_shown}

pub returns : goal.returns
returns g c = λ others have.
    shown_whole (IsShown c.args.scope c.args.types.now others) c.args.sign.now c.args.types.now (string_bytes c.args.text.now) (string_bytes c.loop-bytes.text) c.loop-bytes.position c.loop-bytes.bytes-iterator (c.loop-bytes.invariant.shown others have) (c.in-None.ensures.steps).0

pub loop-bytes-preserved : goal.loop-bytes-preserved
loop-bytes-preserved g c =
    let all = c.args.types.now in
    let k = c.loop-bytes.position in
    let split : c.loop-bytes.bytes-iterator ≡ c.in-Some.bytes.now ∷ c.next.new.self = search rules in
    let next = next_record all k c.loop-bytes.bytes-iterator c.next.new.self c.in-Some.bytes.now c.loop-bytes.invariant.left split in
    record {
      left = next.2;
      inside = omega (arith, next.1);
      shown = λ others have.
          let P = IsShown c.args.scope all others in
          let s = get_or c.args.standings.now k Shared in
          let has = have.each k next.1 in
          elim c.if-is_shown.branch [
            | then-is_shown+in_ok-push_signed w ↦ rw w.text-is (line_shown P c.args.sign.now all (string_bytes c.args.text.now) (string_bytes c.loop-bytes.text) _ k c.in-Some.bytes.now c.loop-bytes.bytes-iterator c.next.new.self
                (c.loop-bytes.invariant.shown others have) split (standing_shown c.args.scope s all others k has (c.is_shown.ensures.0 w.if-is_shown.true)) w.in_ok-push_signed.ensures)
            | else-is_shown w ↦ rw w.text-is (line_hidden P c.args.sign.now all (string_bytes c.args.text.now) (string_bytes c.loop-bytes.text) k c.in-Some.bytes.now c.loop-bytes.bytes-iterator c.next.new.self
                (c.loop-bytes.invariant.shown others have) split (standing_hidden c.args.scope s all others k c.len.ensures.types has (λ shows. both_ways c.is_shown.result w.if-is_shown.false (c.is_shown.ensures.1 shows))))
          ];
    }
