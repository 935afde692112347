-- How a call that writes an image leaves its sink.
use Rattle.std.specs.Prelude.{ℕ, ◌≡◌, ◌≢◌, ◌⊎◌, true, Bool, List, [], ◌++◌, get_or, set, Option, Result, Err, OnOk, IfErr}
use Rattle.std.specs.Borrow.{Bor}
use Rattle.std.specs.List.{concat}
use Rattle.std.specs.Io.KnownBytes.{Appends}
use Rattle.msf_streams.specs.Image.{Writable, image, joined_of}
use Rattle.msf_streams.specs.Put.{AppendsPart}
use Rattle.msf_streams.specs.declared.fault.WriteFault.{WriteFault}
use Rattle.msf_streams.specs.declared.fault.WriteFault.TheVariants as writes

-- the contents of streams that are lent in parts, with texts after the parts of stream 2
abbrev pub with_texts : List (Bor (List (Bor (List ℕ)))) → List (List ℕ) → List (List ℕ)
with_texts streams texts =
    set (joined_of streams) 2 (get_or (joined_of streams) 2 [] ++ concat texts)

-- the sink took the image of these contents, or the call was refused
pub record WritesImage {W T : Type 0} (block_size : ℕ) (contents : List (List ℕ))
    (taken : W → Option (List ℕ)) (is_broken : W → Bool) (before after : W)
    (result : Result T WriteFault) : Type 0 where
  pub value : OnOk result (Appends (taken before) (taken after) (image block_size contents))
  -- contents that can be written are refused only when out of memory, or when the sink breaks
  pub found : Writable block_size contents →
      IfErr result (λ fault. (fault ≡ writes.Memory) ⊎ (fault ≡ writes.Write))
  -- the result is `Image`, or the contents can be written
  pub writable : (result ≡ Err writes.Image) ⊎ Writable block_size contents
  pub unwritable : IfErr result (λ fault.
      fault ≡ writes.Image → Writable block_size contents → ⊥)
  pub write : IfErr result (λ fault.
      fault ≡ writes.Write →
      (is_broken after ≡ true)
      × AppendsPart (taken before) (taken after) (image block_size contents))
  pub untouched : IfErr result (λ fault. fault ≢ writes.Write → after ≡ before)
