use Rattle.std.proofs.Common.{◌≡◌, take}
use Rattle.std.specs.List.{All, concat}
use Rattle.packed_texts.specs.PackedTexts.{parts, texts_at, HasSpan}
use Rattle.packed_texts.proofs.ordered.OrderedTexts.new.Given as goal

abbrev pub invariant-loop-position : goal.invariant-loop-position
invariant-loop-position g l = record {
  has : All (HasSpan (concat l.fn.texts)) l.spans.items;
  are : parts (concat l.fn.texts) l.spans.items ≡ texts_at l.fn.texts (take l.position-index l.order);
}
