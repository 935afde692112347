-- What a command makes of a file.
use Rattle.std.proofs.Common.{◌≡◌, ◌⊎◌, ℕ, ◌≤◌, Bool, List, Option, refl, ap, ◌∙◌, inl, inr}
use Rattle.std.specs.Prelude.{Result, Ok, Err, IfOk, IfErr}
use Rattle.byte_fields.specs.Bytes.{AreBytes}
use Rattle.byte_io.specs.At.{Bytes, IfKnown, IfOf}
use Rattle.byte_io.specs.Input.{GivesAll}
use Rattle.byte_io.specs.declared.at.AtFault.{AtFault}
use Rattle.byte_io.specs.declared.at.AtFault.TheVariants as at
use Rattle.msf_blocks.specs.Layout.{LayoutView, HasLayout, HasWithinFault, TextsRefuse, TextsRefuseWithin}
use Rattle.msf_superblock.specs.declared.fault.MsfFault.{MsfFault}
use Rattle.msf_superblock.specs.declared.fault.MsfFault.TheVariants as msf
use Rattle.byte_io.specs.declared.limited.Limited.{Limited}
use Rattle.byte_io.specs.declared.limited.Limited.TheVariants as within
use Rattle.msf_blocks.proofs.AtLayoutLaws.{short_directory}
use Rattle.file_types.specs.Fault.{pdb_from_msf}
use Rattle.file_types.specs.declared.fault.PdbFault.{PdbFault}
use Rattle.show_commands.specs.Fault.{run_from_pdb}
use Rattle.show_commands.specs.Show.{Answers, GivesRefused, IfOfFile, IsOfText, PrintsPart, RefusesBounded, RefusesKnown, RefusesUnlaid, ShowsBounded, ShowsKnown}
use Rattle.show_commands.specs.Streams.{RefusesLayout}
use Rattle.show_commands.specs.declared.fault.RunFault.{RunFault}
use Rattle.show_commands.specs.declared.fault.RunFault.TheVariants.{Open, Read, Memory, Write}

-- ---- a limit on the directory

-- the text that a command makes of a file that is known
pub text_known : {T F : Type 0} (bytes_of : T → List ℕ) (Shows : List ℕ → List ℕ → Type 0) (ShowsRead : Bytes → LayoutView → List ℕ → Type 0) (limit : ℕ) (bytes : Bytes) (layout : LayoutView) (answer : Result T F) → ShowsKnown Shows ShowsRead
    → IfKnown bytes AreBytes → IfKnown bytes (λ file. HasLayout file layout) → layout.superblock.directory_bytes ≤ limit
    → IfOk answer (λ text. ShowsRead bytes layout (bytes_of text)) → IfOk answer (λ text. IfKnown bytes (λ file. ShowsBounded limit Shows file (bytes_of text)))
text_known bytes_of Shows ShowsRead limit bytes layout (Ok text) each small has short shows = λ file known.
    let there = has file known in
    (short_directory limit file layout.superblock there.superblock short, each file layout (bytes_of text) (small file known) there (rw known at shows))
text_known bytes_of Shows ShowsRead limit bytes layout (Err fault) each small has short shows = tt

-- and its fault
pub fault_known : {T A : Type 0} (Refuses : List ℕ → RunFault A → Type 0) (RefusesRead : Bytes → LayoutView → RunFault A → Type 0) (limit : ℕ) (bytes : Bytes) (layout : LayoutView) (answer : Result T (AtFault (RunFault A))) → RefusesKnown Refuses RefusesRead
    → IfKnown bytes AreBytes → IfKnown bytes (λ file. HasLayout file layout) → layout.superblock.directory_bytes ≤ limit
    → IfErr answer (IfOf (λ fault. RefusesRead bytes layout fault ⊎ (fault ≡ Memory))) → IfErr answer (IfOf (λ fault. IfKnown bytes (λ file. RefusesBounded limit Refuses file fault ⊎ (fault ≡ Memory))))
fault_known Refuses RefusesRead limit bytes layout (Ok text) each small has short refused = tt
fault_known Refuses RefusesRead limit bytes layout (Err at.Read) each small has short refused = tt
fault_known Refuses RefusesRead limit bytes layout (Err (at.Of fault)) each small has short (inl own) = λ file known.
    let there = has file known in
    inl (inr (short_directory limit file layout.superblock there.superblock short, each file layout fault (small file known) there (rw known at own)))
fault_known Refuses RefusesRead limit bytes layout (Err (at.Of fault)) each small has short (inr want) = λ file known. inr want

-- ---- a fault of the container

-- it is the fault of the file
pub layout_refused : {A : Type 0} (Refuses : List ℕ → RunFault A → Type 0) (limit : ℕ) (file : List ℕ) (fault : MsfFault) (inner : PdbFault A) (outer : RunFault A) → RefusesUnlaid Refuses → AreBytes file → inner ≡ pdb_from_msf fault → outer ≡ run_from_pdb inner
    → HasWithinFault limit file (within.Of fault) → RefusesBounded limit Refuses file outer ⊎ (outer ≡ Memory)
layout_refused Refuses limit file msf.Memory inner outer each bytes is made refused = inr (made ∙ ap run_from_pdb is)
layout_refused Refuses limit file fault inner outer each bytes is made (short, inl first) = inl (rw (made, is) (inr (short, each file fault bytes first)))
layout_refused Refuses limit file fault inner outer each bytes is made (short, inr want) = absurd (let bad = want.0 in cc)

-- and that of what reads gave
pub texts_refused : {A : Type 0} (bytes : Bytes) (fault : MsfFault) (inner : PdbFault A) (outer : RunFault A) → inner ≡ pdb_from_msf fault → outer ≡ run_from_pdb inner → TextsRefuse bytes fault → RefusesLayout bytes outer ⊎ (outer ≡ Memory)
texts_refused bytes msf.Memory inner outer is made refused = inr (made ∙ ap run_from_pdb is)
texts_refused bytes fault inner outer is made refused = inl (rw (made, is) (refused, λ memory. cc))

-- the fault of a layout whose directory is within the limit
pub refused_of : (limit : ℕ) (bytes : Bytes) (fault : Limited MsfFault) (inner : MsfFault) → fault ≡ within.Of inner → TextsRefuseWithin limit bytes fault → TextsRefuse bytes inner
refused_of limit bytes fault inner is refused = rw is at refused

-- ---- an answer in weaker words

of_file_more : {A : Type 0} (P Q : RunFault A → Type 0) (fault : RunFault A) → (P fault → Q fault) → IfOfFile P fault → IfOfFile Q fault
of_file_more P Q Open more is = tt
of_file_more P Q (Read fault) more is = tt
of_file_more P Q Memory more is = tt
of_file_more P Q Write more is = tt
of_file_more P Q fault more is = more is

part_more : (Shows Shows' : List ℕ → List ℕ → Type 0) (limit : ℕ) (left_before left_after taken_before taken_after : Option (List ℕ)) → ((file text : List ℕ) → Shows file text → Shows' file text) → PrintsPart Shows limit left_before left_after taken_before taken_after → PrintsPart Shows' limit left_before left_after taken_before taken_after
part_more Shows Shows' limit left_before left_after taken_before taken_after shows (file, text, count, gives, is, short, appends) = (file, text, count, gives, shows file text is, short, appends)

-- what each text and each refusal of a command says, its answer says
pub answers_more : {A W T : Type 0} (Shows Shows' : List ℕ → List ℕ → Type 0) (Refuses Refuses' : List ℕ → RunFault A → Type 0) (limit : ℕ) (left_before left_after : Option (List ℕ)) (broken : Bool) (taken : W → Option (List ℕ)) (is_broken : W → Bool) (before after : W) (result : Result T (RunFault A))
    → ((file text : List ℕ) → Shows file text → Shows' file text) → ((file : List ℕ) (fault : RunFault A) → Refuses file fault → Refuses' file fault)
    → Answers Shows Refuses limit left_before left_after broken taken is_broken before after result → Answers Shows' Refuses' limit left_before left_after broken taken is_broken before after result
answers_more Shows Shows' Refuses Refuses' limit left_before left_after broken taken is_broken before after (Ok done) shows refuses a = record {
  value = (let v = a.value in (v.0, v.1, v.2, shows v.0 v.1 v.3, v.4));
  read = tt;
  first = tt;
  memory = tt;
  write = tt;
  untouched = tt;
}
answers_more Shows Shows' Refuses Refuses' limit left_before left_after broken taken is_broken before after (Err fault) shows refuses a = record {
  value = tt;
  read = a.read;
  first = of_file_more (GivesRefused Refuses limit left_before left_after) (GivesRefused Refuses' limit left_before left_after) fault (λ refused. (refused.0, refused.1, refuses refused.0 fault refused.2)) a.first;
  memory = a.memory;
  write = λ is. (let w = a.write is in (w.0, part_more Shows Shows' limit left_before left_after (taken before) (taken after) shows w.1));
  untouched = a.untouched;
}

-- ---- a file that was read, and of which no text is made

pub text_refused : {A W T : Type 0} (Shows : List ℕ → List ℕ → Type 0)
    (Refuses : List ℕ → RunFault A → Type 0) (limit : ℕ) (left_before left_after : Option (List ℕ))
    (broken : Bool) (taken : W → Option (List ℕ)) (is_broken : W → Bool) (before : W)
    (file : List ℕ) (fault : RunFault A) → GivesAll left_before left_after limit file
    → Refuses file fault ⊎ (fault ≡ Memory) → IsOfText fault
    → Answers {T = T} Shows Refuses limit left_before left_after broken taken is_broken before before
    (Err fault)
text_refused Shows Refuses limit left_before left_after broken taken is_broken before file Open gives is pure = absurd pure
text_refused Shows Refuses limit left_before left_after broken taken is_broken before file (Read fault) gives is pure = absurd pure
text_refused Shows Refuses limit left_before left_after broken taken is_broken before file Write gives is pure = absurd pure
text_refused Shows Refuses limit left_before left_after broken taken is_broken before file Memory gives is pure = record {
  value = tt;
  read = tt;
  first = tt;
  memory = λ want. (file, gives.short, gives.came);
  write = λ write. absurd cc;
  untouched = inr refl;
}
text_refused Shows Refuses limit left_before left_after broken taken is_broken before file fault gives (inl refused) pure = record {
  value = tt;
  read = tt;
  first = (file, gives, refused);
  memory = λ want. (file, gives.short, gives.came);
  write = λ write. absurd cc;
  untouched = inr refl;
}
text_refused Shows Refuses limit left_before left_after broken taken is_broken before file fault gives (inr want) pure = absurd cc
