-- What the command `merge` writes and reports.
use Rattle.std.specs.Prelude.{ℕ, ◌≡◌, ◌≢◌, ◌⊎◌, Bool, true, List, ◌++◌, Option, Result, Err, OnOk, IfErr, IfSome, length, codes}
use Rattle.std.specs.Io.KnownBytes.{Appends}
use Rattle.byte_io.specs.Inputs.{CanRead, Give}
use Rattle.byte_io.specs.declared.inputs.InputFault.{InputFault}
use Rattle.msf_streams.specs.Put.{AppendsPart}
use Rattle.pdb_merge.specs.Answer.{AcceptsFiles, RefusesFiles, RefusesReading, Writes, WritesPart}
use Rattle.pdb_merge.specs.Fault.{NamesFault}
use Rattle.pdb_merge.specs.declared.summary.Summary.{Summary}
use Rattle.pdb_merge.specs.declared.fault.MergeFault.{MergeFault}
use Rattle.pdb_merge.specs.declared.fault.MergeFault.TheVariants as merge
use Rattle.output_words.specs.Text.{named_line}
use Rattle.run_options.specs.declared.on_refused.OnRefused.{OnRefused}
use Rattle.run_options.specs.declared.on_refused.OnRefused.TheVariants.{Stop, Skip}
use Rattle.show_commands.specs.declared.fault.RunFault.{RunFault}
use Rattle.show_commands.specs.declared.fault.RunFault.TheVariants.{Merge, Memory, Write}

-- the report on a written file: how many types it has, how many bytes they have together, and how
-- long the file is
unfoldable pub summary_lines : Summary → List ℕ
summary_lines summary =
    named_line (codes "types") summary.types ++ named_line (codes "bytes") summary.bytes
    ++ named_line (codes "file") summary.length

-- the report on a merge: where files that are refused are left out, it says how many were
unfoldable pub report_lines : Summary → OnRefused → ℕ → List ℕ
report_lines summary Stop left_out = summary_lines summary
report_lines summary Skip left_out =
    summary_lines summary ++ named_line (codes "refused") left_out

-- a sink took the whole file
abbrev pub WroteWhole : Writes → Option (List ℕ) → Option (List ℕ) → Type 0
WroteWhole wrote old new = (summary : Summary) × wrote old new summary

-- one sink took the whole file, and the other sink took the report on it
abbrev pub WroteAndReported : Writes → Option (List ℕ) → Option (List ℕ) → Option (List ℕ)
    → Option (List ℕ) → Type 0
WroteAndReported wrote old new told_before told_after =
    (summary : Summary) × wrote old new summary
    × Appends told_before told_after (summary_lines summary)

-- one sink took the whole file, and the other sink took the first bytes of the report, but not all
-- of them
abbrev pub WroteAndBrokeOff : Writes → Option (List ℕ) → Option (List ℕ) → Option (List ℕ)
    → Option (List ℕ) → Type 0
WroteAndBrokeOff wrote old new told_before told_after =
    (summary : Summary) × wrote old new summary
    × AppendsPart told_before told_after (summary_lines summary)

-- a fault that the command can have: a fault of merging, which is not out of memory; or out of
-- memory; or that a sink broke
abbrev pub IsOfMerging : {A : Type 0} → RunFault A → Type 0
IsOfMerging (Merge inner) = (inner ≢ merge.Memory) × NamesFault inner
IsOfMerging Memory = Unit {0}
IsOfMerging Write = Unit {0}
IsOfMerging _ = ⊥

-- how a command answers that reads the types of all its inputs, and then writes a text
pub record AnswersReading {A W T : Type 0} (known : Option (List (Result (List ℕ) InputFault)))
    (before after : W) (result : Result T (RunFault A)) : Type 0 where
  -- the command has no other fault, whatever is known of the inputs
  pub own : IfErr result IsOfMerging
  pub read : OnOk result (IfSome known (λ each. CanRead each (length each)))
  pub refuses : IfErr result (λ fault. (inner : MergeFault A) → fault ≡ Merge inner →
      RefusesReading known inner)
  -- something may have been written only after all inputs were read
  pub late : result ≡ Err Write → IfSome known (λ each. CanRead each (length each))
  pub untouched : IfErr result (λ fault. fault ≢ Write → after ≡ before)

-- how a command that merges answers: `wrote` says what it wrote for which files, and `part` what it
-- wrote of that before its sink broke
pub record MergesInto {A W V : Type 0} (known : Option (List (Result (List ℕ) InputFault)))
    (limit : ℕ) (wrote : List (List ℕ) → Writes) (part : List (List ℕ) → WritesPart)
    (taken : W → Option (List ℕ)) (is_broken : W → Bool) (before after : W)
    (told : V → Option (List ℕ)) (is_dumb : V → Bool) (report_before report_after : V)
    (result : Result (Unit {0}) (RunFault A)) : Type 0 where
  -- the command has no other fault, whatever is known of the inputs
  pub own : IfErr result IsOfMerging
  pub value : (given : List (List ℕ)) → Give known given →
      OnOk result (WroteAndReported (wrote given) (taken before) (taken after)
      (told report_before) (told report_after))
  pub accepts : OnOk result (AcceptsFiles known limit)
  pub refuses : IfErr result (λ fault. (inner : MergeFault A) → fault ≡ Merge inner →
      RefusesFiles known limit inner)
  -- something may have been written only after every file was read, and only if all of them can be
  -- merged
  pub late : result ≡ Err Write → AcceptsFiles known limit
  pub kept : result ≡ Err Memory → (after ≡ before) ⊎ AcceptsFiles known limit
  pub write : (given : List (List ℕ)) → Give known given → result ≡ Err Write →
      ((is_broken after ≡ true) × part given (taken before) (taken after)
      × (report_after ≡ report_before))
      ⊎ ((is_dumb report_after ≡ true) × WroteAndBrokeOff (wrote given) (taken before) (taken after)
      (told report_before) (told report_after))
  -- after `Memory`, nothing was written, or `out` took the whole file
  pub memory : (given : List (List ℕ)) → Give known given → result ≡ Err Memory →
      (after ≡ before) ⊎ WroteWhole (wrote given) (taken before) (taken after)
  pub broken : result ≡ Err Write → (is_broken after ≡ true) ⊎ (is_dumb report_after ≡ true)
  pub untold : result ≡ Err Memory → report_after ≡ report_before
  pub untouched : IfErr result (λ fault. (inner : MergeFault A) → fault ≡ Merge inner →
      (after ≡ before) × (report_after ≡ report_before))
