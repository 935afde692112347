-- A written header reads back.
use Rattle.std.proofs.Common.{◌≡◌, ℕ, ◌+◌, ◌*◌, ◌<◌, ◌^◌, List, ◌++◌, length, get_or, arith}
use Rattle.std.specs.List.{concat}
use Rattle.std.proofs.lemmas.List.{length-append, drop_at}
use Rattle.byte_fields.specs.Number.{number_at, nth_u32}
use Rattle.byte_fields.proofs.NumberLaws.{nth_u32-u32s, length-u32s}
use Rattle.tpi_records.specs.Written.{header_numbers, header_bytes, HeadsRecords}
use Rattle.tpi_records.specs.Header.{first_index}

-- each number of the header reads back
number_back : (count bytes : ℕ) (rest : List ℕ) (k : ℕ) → k < 14 → get_or (header_numbers count bytes) k 0 < 2 ^ 32 → number_at 4 (header_bytes count bytes ++ rest) (4 * k) ≡ get_or (header_numbers count bytes) k 0
unfolding header_bytes nth_u32
number_back count bytes rest k lt small = nth_u32-u32s (header_numbers count bytes) rest k lt small

length-header : (count bytes : ℕ) → length (header_bytes count bytes) ≡ 56
unfolding header_bytes
length-header count bytes = length-u32s (header_numbers count bytes)

-- the records after the header are those that it announces
pub heads_records : (count bytes : ℕ) (header : List ℕ) → header ≡ header_bytes count bytes → first_index + count < 2 ^ 32 → bytes < 2 ^ 32 → HeadsRecords header count bytes
heads_records count bytes header is few short records rest each counted long =
    let t = header_bytes count bytes in
    let behind = concat records ++ rest in
    rw is (record {
      header = record {
        long = omega (arith, length-append t behind, length-header count bytes);
        version = number_back count bytes behind 0 (omega arith) (omega arith);
        header_size = number_back count bytes behind 1 (omega arith) (omega arith);
        begin = number_back count bytes behind 2 (omega arith) (omega arith);
        end = rw counted (number_back count bytes behind 3 (omega arith) (omega arith));
        bytes = rw long (number_back count bytes behind 4 (omega arith) (omega arith));
        whole = omega (arith, length-append t behind, length-header count bytes, length-append (concat records) rest);
      };
      rest = rest;
      parts = drop_at t behind 56 (length-header count bytes);
      each = each;
    })
