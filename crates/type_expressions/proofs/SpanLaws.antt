-- Where the lines of field lists stand in a text.
use Rattle.std.proofs.Common.{◌≡◌, ◌≤◌, ◌<◌, ◌+◌, ◌-◌, ◌∙◌, ℕ, zero, suc, List, [], ◌∷◌, ◌++◌, Option, Some, None, length, take, drop, get_or, replicate, refl, sym, ap, subst, arith, inl, inr}
use Rattle.std.specs.Prelude.{Result, Ok, Err, IfOk, slice_range}
use Rattle.std.specs.List.{Contains}
use Rattle.std.proofs.lemmas.List.{append-nil, append_assoc, drop_all, drop-append-le, length-append, length-drop, length-replicate, take_all, take-append-le}
use Rattle.std.proofs.lemmas.List.Elements.{Contains-append_cases}
use Rattle.tpi_records.specs.Header.{first_index}
use Rattle.type_trees.specs.Tree.{Tree, Branches, IsTreeAt}
use Rattle.type_trees.specs.Depth.{depth, depth_over}
use Rattle.type_trees.proofs.TreeLaws.{one}
use Rattle.type_expressions.specs.Lines.{list_lines, lines_text, own_lines, rest_lines, AreLines, GoOn}
use Rattle.type_expressions.specs.Spans.{untold, StandsAt, AreSpans, IsBegun, IsMarked, Steps}
use Rattle.type_expressions.specs.declared.lists.Begun.{Begun}
use Rattle.type_expressions.specs.declared.lists.Span.{Span}
use Rattle.type_expressions.proofs.LinesLaws.{deeper, lines_go, lists_end, more_text}

-- ---- one step

pub if_ok : {T E : Type 0} (P Q : T → Type 0) (result : Result T E) → ((x : T) → P x → Q x) → IfOk result P → IfOk result Q
if_ok P Q (Ok x) f p = f x p
if_ok P Q (Err e) f p = tt

-- where no list is named, no line is left
pub no_list : (records : List (List ℕ)) (deep to : ℕ) (lines : List (List ℕ)) → to < first_index → GoOn records deep (Some to) lines → lines ≡ []
no_list records deep to lines small (inl none) = none.1
no_list records deep to lines small (inr there) = absurd (omega (arith, small, there.0))

-- no list follows
pub stops : (records : List (List ℕ)) (deep : ℕ) (lines : List (List ℕ)) (old : List ℕ) (before : List Begun) → lines ≡ [] → Steps records deep lines old old before before None
stops records deep lines old before none = record {
  told = [];
  grown = sym (append-nil old);
  left = [];
  split = ap lines_text (sym none);
  lower = λ more le. refl;
  begun = λ b has. inl has;
}

-- the list that is named, whose lines are left
pub list_is : (records : List (List ℕ)) (deep position : ℕ) (lines : List (List ℕ)) → GoOn records deep (Some (first_index + position)) lines → (t : Tree) × IsTreeAt records position t × (lines ≡ list_lines t)
list_is records deep position lines (inl none) = absurd (omega (arith, none.0))
list_is records deep position lines (inr (large, t, stands, low, is)) =
    let place : first_index + position - first_index ≡ position = omega arith in
    (t, subst (λ (k : ℕ). IsTreeAt records k t) place stands, is)

-- the lines that stand there already are copied
pub copies : (records : List (List ℕ)) (deep position : ℕ) (lines : List (List ℕ)) (old now : List ℕ) (span : Span) (before : List Begun) → GoOn records deep (Some (first_index + position)) lines
    → StandsAt records old position span → now ≡ old ++ slice_range old span.start span.end → Steps records deep lines old now before before None
unfolding lines_text
copies records deep position lines old now span before goes stands is =
    let list = list_is records deep position lines goes in record {
      told = slice_range old span.start span.end;
      grown = is;
      left = [];
      split = append-nil (slice_range old span.start span.end) ∙ stands.lines list.0 list.1 ∙ ap lines_text (sym list.2);
      lower = λ more le. refl;
      begun = λ b has. inl has;
    }

one_begun : (new b : Begun) → Contains (new ∷ []) b → new ≡ b
one_begun new b (zero, below, is) = is
one_begun new b (suc k, below, is) = absurd (omega (arith, below))

-- a list is begun
pub begins : (records : List (List ℕ)) (deep position : ℕ) (r : List ℕ) (lines : List (List ℕ)) (bs : Branches) (old now : List ℕ) (before : List Begun) (next : Option ℕ) → GoOn records deep (Some (first_index + position)) lines
    → position < length records → depth_over bs < deep → lines ≡ own_lines r bs ++ rest_lines r bs → now ≡ old ++ lines_text (own_lines r bs) → GoOn records (depth_over bs) next (rest_lines r bs)
    → Steps records deep lines old now before (before ++ record { position = position; start = length old } ∷ []) next
begins records deep position r lines bs old now before next goes below low split pushed rest =
    let new : Begun = record { position = position; start = length old } in
    let list = list_is records deep position lines goes in record {
      told = lines_text (own_lines r bs);
      grown = pushed;
      left = rest_lines r bs;
      split = sym (more_text (own_lines r bs) (rest_lines r bs)) ∙ ap lines_text (sym split);
      lower = λ more le. deeper records (depth_over bs) more next (rest_lines r bs) (omega (arith, low, le)) rest;
      begun = λ b has. elim (Contains-append_cases before (new ∷ []) b has) [
        | inl earlier ↦ inl earlier
        | inr last ↦ inr (subst (λ (x : Begun). IsBegun records old lines x) (one_begun new b last) (record {
          there = below;
          inside = omega arith;
          lines = λ t stands. rw (drop_all (length old) old (omega arith), one records position t list.0 stands list.1) (ap lines_text list.2);
        }))
      ];
    }

-- ---- texts that grow

-- nothing is told yet
pub none_told : (records : List (List ℕ)) (text : List ℕ) (many : ℕ) → many ≡ length records → AreSpans records text (replicate many untold)
none_told records text many is = record {
  many = length-replicate many untold ∙ is;
  each = λ i some. absurd (some (ap (λ (s : Span). s.end) (replicated many i)));
}
  where
    replicated : (n i : ℕ) → get_or (replicate n untold) i untold ≡ untold
    replicated zero i = refl
    replicated (suc n) zero = refl
    replicated (suc n) (suc i) = replicated n i

slice_kept : (text more : List ℕ) (start end : ℕ) → start ≤ end → end ≤ length text → slice_range (text ++ more) start end ≡ slice_range text start end
slice_kept text more start end forward inside =
    ap (λ (xs : List ℕ). take (end - start) xs) (drop-append-le start text more (omega (arith, forward, inside)))
    ∙ take-append-le (end - start) (drop start text) more (omega (arith, forward, inside, length-drop start text))

slice_all : (text : List ℕ) (start : ℕ) → slice_range text start (length text) ≡ drop start text
slice_all text start = take_all (length text - start) (drop start text) (omega (arith, length-drop start text))

-- a list stands where it stood after the text has grown
pub spans_grow : (records : List (List ℕ)) (text now told : List ℕ) (spans : List Span) → now ≡ text ++ told → AreSpans records text spans → AreSpans records now spans
spans_grow records text now told spans is are = record {
  many = are.many;
  each = λ i some.
      let s = get_or spans i untold in
      let stood = are.each i some in
      rw is (record {
        forward = stood.forward;
        inside = omega (arith, stood.inside, length-append text told);
        lines = λ t stands. slice_kept text told s.start s.end stood.forward stood.inside ∙ stood.lines t stands;
      });
}

-- ---- from list to list

-- two lists of lines of one reference are equal
pub same_lines : (records : List (List ℕ)) (to : ℕ) (lines others : List (List ℕ)) → AreLines records to lines → AreLines records to others → lines ≡ others
same_lines records to lines others (inl a) (inl b) = a.1 ∙ sym b.1
same_lines records to lines others (inl a) (inr b) = absurd (omega (arith, a.0, b.0))
same_lines records to lines others (inr a) (inl b) = absurd (omega (arith, a.0, b.0))
same_lines records to lines others (inr a) (inr b) = a.3 ∙ ap list_lines (one records (to - first_index) a.1 b.1 a.2 b.2) ∙ sym b.3

-- what was told so far, from the list that `to` names on
pub record WalkSoFar (records : List (List ℕ)) (to deep : ℕ) (next : Option ℕ) (old now : List ℕ) (spans : List Span) (walk : List Begun) : Type 0 where
  pub all : List (List ℕ)
  pub are : AreLines records to all
  pub left : List (List ℕ)
  pub goes : GoOn records deep next left
  pub text : now ++ lines_text left ≡ old ++ lines_text all
  pub begun : (b : Begun) → Contains walk b → IsBegun records now left b
  pub stand : AreSpans records now spans

-- a list that was begun goes on
goes_on : (records : List (List ℕ)) (old told now : List ℕ) (lines left : List (List ℕ)) (b : Begun) → now ≡ old ++ told → told ++ lines_text left ≡ lines_text lines → IsBegun records old lines b → IsBegun records now left b
goes_on records old told now lines left b grown split begun = rw grown (record {
  there = begun.there;
  inside = omega (arith, begun.inside, length-append old told);
  lines = λ t stands.
      ap (λ (xs : List ℕ). xs ++ lines_text left) (drop-append-le b.start old told begun.inside) ∙ append_assoc (drop b.start old) told (lines_text left)
      ∙ ap (λ (xs : List ℕ). drop b.start old ++ xs) split ∙ begun.lines t stands;
})

-- one step more
pub walk_goes : (records : List (List ℕ)) (to deep more list : ℕ) (next : Option ℕ) (old text now : List ℕ) (spans : List Span) (walk walked : List Begun) → deep ≤ suc more
    → (so_far : WalkSoFar records to deep (Some list) old text spans walk) → Steps records deep so_far.left text now walk walked next → WalkSoFar records to more next old now spans walked
walk_goes records to deep more list next old text now spans walk walked le so_far step = record {
  all = so_far.all;
  are = so_far.are;
  left = step.left;
  goes = step.lower more le;
  text = ap (λ (xs : List ℕ). xs ++ lines_text step.left) step.grown ∙ append_assoc text step.told (lines_text step.left) ∙ ap (λ (xs : List ℕ). text ++ xs) step.split ∙ so_far.text;
  begun = λ b has. elim (step.begun b has) [
    | inl earlier ↦ goes_on records text step.told now so_far.left step.left b step.grown step.split (so_far.begun b earlier)
    | inr new ↦ goes_on records text step.told now so_far.left step.left b step.grown step.split new
  ];
  stand = spans_grow records text now step.told spans step.grown so_far.stand;
}

-- before the first list
pub walk_starts : (records : List (List ℕ)) (to deep : ℕ) (old : List ℕ) (spans : List Span) (walk : List Begun) (all : List (List ℕ)) → AreLines records to all
    → ((t : Tree) → first_index ≤ to → IsTreeAt records (to - first_index) t → depth t < deep) → AreSpans records old spans → walk ≡ [] → WalkSoFar records to deep (Some to) old old spans walk
walk_starts records to deep old spans walk all are low spans_are none = record {
  all = all;
  are = are;
  left = all;
  goes = lines_go records deep to all low are;
  text = refl;
  begun = λ b has. let has_none : Contains [] b = rw none at has in absurd (omega (arith, has_none.1));
  stand = spans_are;
}

-- behind the last list
pub walk_ends : (records : List (List ℕ)) (to deep : ℕ) (next : Option ℕ) (old now : List ℕ) (spans : List Span) (walk : List Begun) (so_far : WalkSoFar records to deep next old now spans walk) → so_far.left ≡ []
    → ((lines : List (List ℕ)) → AreLines records to lines → now ≡ old ++ lines_text lines) × ((b : Begun) → Contains walk b → IsBegun records now [] b)
walk_ends records to deep next old now spans walk so_far none = (
  λ lines are. lists_end now old so_far.left lines none (so_far.text ∙ ap (λ (ls : List (List ℕ)). old ++ lines_text ls) (same_lines records to so_far.all lines so_far.are are)),
  λ b has. subst (λ (ls : List (List ℕ)). IsBegun records now ls b) none (so_far.begun b has),
)

-- ---- marks

-- an element that is there does not depend on the default
pub any_default : {X : Type 0} (xs : List X) (k : ℕ) (d e : X) → k < length xs → get_or xs k d ≡ get_or xs k e
any_default [] k d e below = absurd (omega (arith, below))
any_default (x ∷ xs) zero d e below = refl
any_default (x ∷ xs) (suc k) d e below = any_default xs k d e (omega (arith, below))

-- marked lists stand in the text
pub spans_marked : (records : List (List ℕ)) (text : List ℕ) (before after : List Span) (walk : List Begun) → AreSpans records text before → ((b : Begun) → Contains walk b → IsBegun records text [] b)
    → length after ≡ length before → ((i : ℕ) → IsMarked before after walk (length text) i) → AreSpans records text after
unfolding lines_text
spans_marked records text before after walk are begun many marked = record {
  many = many ∙ are.many;
  each = λ i some. elim (marked i) [
    | inl same ↦ rw same (are.each i (rw same at some))
    | inr new ↦
        let b = new.0 in
        let is = begun b new.1 in
        rw new.3 (record {
          forward = is.inside;
          inside = omega arith;
          lines = λ t stands. slice_all text b.start ∙ sym (append-nil (drop b.start text)) ∙ is.lines t (subst (λ (k : ℕ). IsTreeAt records k t) (sym new.2) stands);
        })
  ];
}
