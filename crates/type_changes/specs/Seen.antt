-- Definitions as the code has them: their parts lie in records and in texts.
use Rattle.std.specs.Prelude.{ℕ, ◌≡◌, ◌≤◌, Bool, true, false, nat_eq, List, [], ◌∷◌, Option, Some, None, filter, option_map, slice_range}
use Rattle.std.specs.List.{list_any}
use Rattle.indexmap.specs.IndexMap.{IndexMap, get_by}
use Rattle.type_changes.specs.Definition.{Key, Definition}
use Rattle.type_changes.specs.Lone.{has, is_same_key}
use Rattle.type_changes.specs.declared.key.Key.{Key as KeyIn}
use Rattle.type_changes.specs.declared.place.Place.{Place}
use Rattle.type_changes.specs.declared.told.Told.{Told}

abbrev pub seen_key : KeyIn → Key
seen_key key = record { kind = key.kind; name = key.name.now }

abbrev pub seen : Told → Definition
seen told = record {
  key = seen_key told.key;
  title = told.title.now;
  size = told.size.now;
  lines = told.lines.now;
}

-- the definition that stands here in a text
abbrev pub seen_at : List ℕ → Place → Definition
seen_at text place = record {
  key = record { kind = place.kind; name = slice_range text place.name place.start };
  title = slice_range text place.start place.parts.size;
  size = slice_range text place.parts.size place.parts.head;
  lines = slice_range text place.parts.lines place.end;
}

-- its name and its parts stand one after the other, in the first bytes of a text
pub record IsInside (many : ℕ) (place : Place) : Type 0 where
  pub name : place.name ≤ place.start
  pub title : place.start ≤ place.parts.size
  pub size : place.parts.size ≤ place.parts.head
  pub head : place.parts.head ≤ place.parts.lines
  pub lines : place.parts.lines ≤ place.end
  pub inside : place.end ≤ many

-- the hash of the name of the definition is among these, where h gives the hash of a name
abbrev pub is_noted : (List ℕ → ℕ) → List ℕ → Definition → Bool
is_noted h names d = list_any (nat_eq (h d.key.name)) names

-- the hash of the name of each of our definitions that is not among theirs is among these
abbrev pub AreNoted : (List ℕ → ℕ) → List ℕ → List Definition → List Definition → Type 0
AreNoted h names ours theirs =
    (d : Definition) → has ours d ≡ true → has theirs d ≡ false → is_noted h names d ≡ true

-- whether there is one definition with a key, or there are several
abbrev pub one_or_several : List Definition → Option (Option Definition)
one_or_several [] = None
one_or_several (d ∷ []) = Some (Some d)
one_or_several (d ∷ other ∷ others) = Some None

-- each key of these definitions has the one definition with it, or nothing where there are several
abbrev pub AreSoles : {S : Type 0} → IndexMap KeyIn (Option Told) S → List Definition → Type 0
AreSoles soles definitions =
    (key : KeyIn)
    → option_map (option_map seen)
    (get_by (λ k. is_same_key (seen_key key) (seen_key k)) soles)
    ≡ one_or_several (filter (λ d. is_same_key (seen_key key) d.key) definitions)
