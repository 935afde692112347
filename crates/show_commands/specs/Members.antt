-- What the command `members` writes.
use Rattle.std.specs.Prelude.{ℕ, ◌≡◌, ◌≢◌, ◌⊎◌, List, [], ◌∷◌, length, map, Option, Result, Err, OnOk, IfErr, IfSome}
use Rattle.std.specs.List.{concat}
use Rattle.std.specs.Io.KnownBytes.{Appends}
use Rattle.byte_io.specs.Inputs.{CanRead, Give}
use Rattle.byte_io.specs.declared.inputs.InputFault.{InputFault}
use Rattle.type_trees.specs.Tree.{Tree}
use Rattle.type_trees.specs.Types.{AreTypes}
use Rattle.msf_streams.specs.Put.{AppendsPart}
use Rattle.file_types.specs.Read.{IsAccepted}
use Rattle.pdb_merge.specs.Answer.{RefusesReading}
use Rattle.pdb_merge.specs.declared.fault.MergeFault.{MergeFault}
use Rattle.show_commands.specs.Fault.{run_from_one}
use Rattle.show_commands.specs.declared.fault.RunFault.{RunFault}
use Rattle.show_commands.specs.declared.fault.RunFault.TheVariants.{Memory, Write}
use Rattle.type_expressions.specs.Asked.{AreTrees, answered, shown_texts}
use Rattle.type_expressions.specs.declared.asked.Asked.{Asked}

-- `members` shows this text for an input: the definitions that are asked for, among its types;
-- `found` says what was found of what was asked for
pub record ShowsMembers (known : Option (List (Result (List ℕ) InputFault)))
    (asked found : List Asked) (text : List ℕ) : Type 0 where
  pub records : List (List ℕ)
  pub are_types : AreTypes records
  pub trees : List Tree
  pub are_trees : AreTrees records trees
  pub finds : found ≡ map (answered trees) asked
  pub shows : text ≡ concat (shown_texts found 0 trees)
  -- where the bytes of the input are known, it is accepted with these types
  pub accepted : (file : List ℕ) → Give known (file ∷ []) → IsAccepted file records

-- a sink took the text for an input
abbrev pub ShowedMembers : Option (List (Result (List ℕ) InputFault)) → List Asked → List Asked
    → Option (List ℕ) → Option (List ℕ) → Type 0
ShowedMembers known asked found old new =
    (text : List ℕ) × ShowsMembers known asked found text × Appends old new text

-- a sink took the first bytes of the text for an input, but not all of them
abbrev pub ShowedMembersPart : Option (List (Result (List ℕ) InputFault)) → List Asked
    → List Asked → Option (List ℕ) → Option (List ℕ) → Type 0
ShowedMembersPart known asked found old new =
    (text : List ℕ) × ShowsMembers known asked found text × AppendsPart old new text

-- the input is refused with this fault, as in a merge, or memory runs out; the fault does not count
-- the input
abbrev pub RefusesOne : {A : Type 0} → Option (List (Result (List ℕ) InputFault)) → RunFault A
    → Type 0
RefusesOne {A = A} known fault =
    (fault ≡ Memory)
    ⊎ ((inner : MergeFault A) × (fault ≡ run_from_one inner) × RefusesReading known inner)

-- how a command answers that reads the types of its one input, and then writes a text
pub record AnswersOne {A W T : Type 0} (known : Option (List (Result (List ℕ) InputFault)))
    (before after : W) (result : Result T (RunFault A)) : Type 0 where
  pub read : OnOk result (IfSome known (λ each. CanRead each (length each)))
  pub refuses : IfErr result (λ fault. (fault ≡ Write) ⊎ RefusesOne known fault)
  -- something may have been written only after the input was read
  pub late : result ≡ Err Write → IfSome known (λ each. CanRead each (length each))
  pub untouched : IfErr result (λ fault. fault ≢ Write → after ≡ before)
