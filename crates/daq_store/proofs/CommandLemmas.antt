-- A packet is read as a command exactly where it is a packet of that command.
use Rattle.std.proofs.Common.{suc, ◌≡◌, ℕ, ◌+◌, ◌/◌, ◌%◌, ◌<◌, ◌≤◌, ◌==◌, Bool, true, false, if◌then◌else◌, List, [], ◌∷◌, length, get_or, Option, Some, None, Result, Ok, Err, IfOk, refl, sym, ap, subst, inl, inr, arith}
use Rattle.std.specs.Result.{result_err}
use Rattle.std.proofs.lemmas.Bool.Decides.{eqb_tells, leb_tells}
use Rattle.xcp_base.specs.declared.err_code.ErrCode.{ErrCode}
use Rattle.xcp_base.specs.declared.err_code.ErrCode.TheVariants.{CmdUnknown}
use Rattle.daq_store.specs.declared.command.Command.{Command}
use Rattle.daq_store.specs.declared.command.Command.TheVariants.{FreeDaq, AllocDaq, AllocOdt, AllocOdtEntry, SetDaqPtr, WriteDaq, SetDaqListMode, StartStopDaqList, StartStopSynch, ClearDaqList, ReadDaq}
use Rattle.daq_store.specs.Commands.{IsPacketOf, alloc_daq, alloc_odt, alloc_odt_entry, command, dword, fault_of_len, packet_fault, set_daq_list_mode, set_daq_ptr, start_stop_daq_list, start_stop_synch, word, write_daq}

-- the bytes of a number make the number
word-bytes : (x : ℕ) → x < 65536 → word (x % 256) (x / 256 % 256) ≡ x
word-bytes x fits = omega arith

dword-bytes : (x : ℕ) → x < 4294967296 → dword (x % 256) (x / 256 % 256) (x / 65536 % 256) (x / 16777216 % 256) ≡ x
dword-bytes x fits = omega arith

-- a packet of a command is read as that command
pub packet_is_read : (packet : List ℕ) (call : Command) → IsPacketOf packet call → command packet ≡ Ok call
packet_is_read packet FreeDaq p = ap command p.bytes
packet_is_read packet (AllocDaq count) p =
    let made : command packet ≡ Ok (AllocDaq (word (count % 256) (count / 256 % 256))) = ap command p.bytes in
    rw (word-bytes count p.fields) at made
packet_is_read packet (AllocOdt list count) p =
    let made : command packet ≡ Ok (AllocOdt (word (list % 256) (list / 256 % 256)) count) = ap command p.bytes in
    rw (word-bytes list p.fields) at made
packet_is_read packet (AllocOdtEntry list odt count) p =
    let made : command packet ≡ Ok (AllocOdtEntry (word (list % 256) (list / 256 % 256)) odt count) = ap command p.bytes in
    rw (word-bytes list p.fields) at made
packet_is_read packet (SetDaqPtr list odt entry) p =
    let made : command packet ≡ Ok (SetDaqPtr (word (list % 256) (list / 256 % 256)) odt entry) = ap command p.bytes in
    rw (word-bytes list p.fields) at made
packet_is_read packet (WriteDaq bit size ext addr) p =
    let made : command packet ≡ Ok (WriteDaq bit size ext (dword (addr % 256) (addr / 256 % 256) (addr / 65536 % 256) (addr / 16777216 % 256)))
    = ap command p.bytes in
    rw (dword-bytes addr p.fields) at made
packet_is_read packet (SetDaqListMode mode list channel prescaler priority) p =
    let made : command packet ≡ Ok (SetDaqListMode mode (word (list % 256) (list / 256 % 256)) (word (channel % 256) (channel / 256 % 256)) prescaler priority)
    = ap command p.bytes in
    rw (word-bytes list p.fields.0, word-bytes channel p.fields.1) at made
packet_is_read packet (StartStopDaqList mode list) p =
    let made : command packet ≡ Ok (StartStopDaqList mode (word (list % 256) (list / 256 % 256))) = ap command p.bytes in
    rw (word-bytes list p.fields) at made
packet_is_read packet (StartStopSynch mode) p = ap command p.bytes
packet_is_read packet (ClearDaqList list) p = absurd p.sets_up
packet_is_read packet ReadDaq p = absurd p.sets_up

-- a number made of bytes has these bytes
word_has : (a b : ℕ) → a < 256 → b < 256 → (word a b < 65536) × (a ≡ word a b % 256) × (b ≡ word a b / 256 % 256)
word_has a b ha hb = (omega arith, omega arith, omega arith)

dword_has : (a b c d : ℕ) → a < 256 → b < 256 → c < 256 → d < 256
    → (dword a b c d < 4294967296) × (a ≡ dword a b c d % 256) × (b ≡ dword a b c d / 256 % 256)
    × (c ≡ dword a b c d / 65536 % 256) × (d ≡ dword a b c d / 16777216 % 256)
dword_has a b c d ha hb hc hd = (omega arith, omega arith, omega arith, omega arith, omega arith)

-- each item is a byte
abbrev AreBytes : List ℕ → Type 0
AreBytes packet = (k : ℕ) → get_or packet k 0 < 256

free_daq_packet : (more : List ℕ) → IsPacketOf (0xD6 ∷ more) FreeDaq
free_daq_packet more = record { sets_up = tt; fields = tt; reserved = 0; surplus = more; bytes = refl }

alloc_daq_packet : (more : List ℕ) → AreBytes more → IfOk (alloc_daq more) (IsPacketOf (0xD5 ∷ more))
alloc_daq_packet [] h = tt
alloc_daq_packet (r ∷ []) h = tt
alloc_daq_packet (r ∷ a ∷ []) h = tt
alloc_daq_packet (r ∷ a ∷ b ∷ rest) h =
    let n = word_has a b (h 1) (h 2) in
    record { sets_up = tt; fields = n.0; reserved = r; surplus = rest; bytes = cc (n.1, n.2) }

alloc_odt_packet : (more : List ℕ) → AreBytes more → IfOk (alloc_odt more) (IsPacketOf (0xD4 ∷ more))
alloc_odt_packet [] h = tt
alloc_odt_packet (r ∷ []) h = tt
alloc_odt_packet (r ∷ a ∷ []) h = tt
alloc_odt_packet (r ∷ a ∷ b ∷ []) h = tt
alloc_odt_packet (r ∷ a ∷ b ∷ n ∷ rest) h =
    let l = word_has a b (h 1) (h 2) in
    record { sets_up = tt; fields = l.0; reserved = r; surplus = rest; bytes = cc (l.1, l.2) }

alloc_odt_entry_packet : (more : List ℕ) → AreBytes more → IfOk (alloc_odt_entry more) (IsPacketOf (0xD3 ∷ more))
alloc_odt_entry_packet [] h = tt
alloc_odt_entry_packet (r ∷ []) h = tt
alloc_odt_entry_packet (r ∷ a ∷ []) h = tt
alloc_odt_entry_packet (r ∷ a ∷ b ∷ []) h = tt
alloc_odt_entry_packet (r ∷ a ∷ b ∷ k ∷ []) h = tt
alloc_odt_entry_packet (r ∷ a ∷ b ∷ k ∷ n ∷ rest) h =
    let l = word_has a b (h 1) (h 2) in
    record { sets_up = tt; fields = l.0; reserved = r; surplus = rest; bytes = cc (l.1, l.2) }

set_daq_ptr_packet : (more : List ℕ) → AreBytes more → IfOk (set_daq_ptr more) (IsPacketOf (0xE2 ∷ more))
set_daq_ptr_packet [] h = tt
set_daq_ptr_packet (r ∷ []) h = tt
set_daq_ptr_packet (r ∷ a ∷ []) h = tt
set_daq_ptr_packet (r ∷ a ∷ b ∷ []) h = tt
set_daq_ptr_packet (r ∷ a ∷ b ∷ k ∷ []) h = tt
set_daq_ptr_packet (r ∷ a ∷ b ∷ k ∷ e ∷ rest) h =
    let l = word_has a b (h 1) (h 2) in
    record { sets_up = tt; fields = l.0; reserved = r; surplus = rest; bytes = cc (l.1, l.2) }

write_daq_packet : (more : List ℕ) → AreBytes more → IfOk (write_daq more) (IsPacketOf (0xE1 ∷ more))
write_daq_packet [] h = tt
write_daq_packet (bit ∷ []) h = tt
write_daq_packet (bit ∷ size ∷ []) h = tt
write_daq_packet (bit ∷ size ∷ ext ∷ []) h = tt
write_daq_packet (bit ∷ size ∷ ext ∷ a ∷ []) h = tt
write_daq_packet (bit ∷ size ∷ ext ∷ a ∷ b ∷ []) h = tt
write_daq_packet (bit ∷ size ∷ ext ∷ a ∷ b ∷ c ∷ []) h = tt
write_daq_packet (bit ∷ size ∷ ext ∷ a ∷ b ∷ c ∷ d ∷ rest) h =
    let x = dword_has a b c d (h 3) (h 4) (h 5) (h 6) in
    record { sets_up = tt; fields = x.0; reserved = 0; surplus = rest; bytes = cc (x.1, x.2, x.3, x.4) }

set_daq_list_mode_packet : (more : List ℕ) → AreBytes more → IfOk (set_daq_list_mode more) (IsPacketOf (0xE0 ∷ more))
set_daq_list_mode_packet [] h = tt
set_daq_list_mode_packet (mode ∷ []) h = tt
set_daq_list_mode_packet (mode ∷ a ∷ []) h = tt
set_daq_list_mode_packet (mode ∷ a ∷ b ∷ []) h = tt
set_daq_list_mode_packet (mode ∷ a ∷ b ∷ c ∷ []) h = tt
set_daq_list_mode_packet (mode ∷ a ∷ b ∷ c ∷ d ∷ []) h = tt
set_daq_list_mode_packet (mode ∷ a ∷ b ∷ c ∷ d ∷ prescaler ∷ []) h = tt
set_daq_list_mode_packet (mode ∷ a ∷ b ∷ c ∷ d ∷ prescaler ∷ priority ∷ rest) h =
    let l = word_has a b (h 1) (h 2) in
    let e = word_has c d (h 3) (h 4) in
    record { sets_up = tt; fields = (l.0, e.0); reserved = 0; surplus = rest; bytes = cc (l.1, l.2, e.1, e.2) }

start_stop_daq_list_packet : (more : List ℕ) → AreBytes more → IfOk (start_stop_daq_list more) (IsPacketOf (0xDE ∷ more))
start_stop_daq_list_packet [] h = tt
start_stop_daq_list_packet (mode ∷ []) h = tt
start_stop_daq_list_packet (mode ∷ a ∷ []) h = tt
start_stop_daq_list_packet (mode ∷ a ∷ b ∷ rest) h =
    let l = word_has a b (h 1) (h 2) in
    record { sets_up = tt; fields = l.0; reserved = 0; surplus = rest; bytes = cc (l.1, l.2) }

start_stop_synch_packet : (more : List ℕ) → IfOk (start_stop_synch more) (IsPacketOf (0xDD ∷ more))
start_stop_synch_packet [] = tt
start_stop_synch_packet (mode ∷ rest) = record { sets_up = tt; fields = tt; reserved = 0; surplus = rest; bytes = refl }

-- one code of the table, and then the others
one_code : (code known : ℕ) (more : List ℕ) (x y : Result Command ErrCode)
    → IfOk x (IsPacketOf (known ∷ more)) → IfOk y (IsPacketOf (code ∷ more))
    → IfOk (if code == known then x else y) (IsPacketOf (code ∷ more))
one_code code known more x y here others = elim (eqb_tells code known) [
  | inl same ↦
      let P : ℕ → Type 0 = λ k. IfOk x (IsPacketOf (k ∷ more)) in
      rw same.0 (subst P (sym same.1) here)
  | inr other ↦ rw other.0 others
]

-- what is read of a packet is a command that it is a packet of
pub read_is_packet : (packet : List ℕ) → AreBytes packet → IfOk (command packet) (IsPacketOf packet)
read_is_packet [] h = tt
read_is_packet (code ∷ more) h =
    let bytes : AreBytes more = λ k. h (suc k) in
    one_code code 0xD6 more (Ok FreeDaq) _ (free_daq_packet more)
    (one_code code 0xD5 more (alloc_daq more) _ (alloc_daq_packet more bytes)
    (one_code code 0xD4 more (alloc_odt more) _ (alloc_odt_packet more bytes)
    (one_code code 0xD3 more (alloc_odt_entry more) _ (alloc_odt_entry_packet more bytes)
    (one_code code 0xE2 more (set_daq_ptr more) _ (set_daq_ptr_packet more bytes)
    (one_code code 0xE1 more (write_daq more) _ (write_daq_packet more bytes)
    (one_code code 0xE0 more (set_daq_list_mode more) _ (set_daq_list_mode_packet more bytes)
    (one_code code 0xDE more (start_stop_daq_list more) _ (start_stop_daq_list_packet more bytes)
    (one_code code 0xDD more (start_stop_synch more) (Err CmdUnknown) (start_stop_synch_packet more) tt))))))))

-- long enough, or too short
not_short : (len least : ℕ) → least ≤ len → None ≡ fault_of_len len (Some least)
not_short len least h = elim (leb_tells (suc len) least) [
  | inl short ↦ absurd (omega arith)
  | inr long ↦ rw long.0 refl
]

alloc_daq_fault : (more : List ℕ) → result_err (alloc_daq more) ≡ fault_of_len (1 + length more) (Some 4)
alloc_daq_fault [] = refl
alloc_daq_fault (r ∷ []) = refl
alloc_daq_fault (r ∷ a ∷ []) = refl
alloc_daq_fault (r ∷ a ∷ b ∷ rest) = not_short _ 4 (omega arith)

alloc_odt_fault : (more : List ℕ) → result_err (alloc_odt more) ≡ fault_of_len (1 + length more) (Some 5)
alloc_odt_fault [] = refl
alloc_odt_fault (r ∷ []) = refl
alloc_odt_fault (r ∷ a ∷ []) = refl
alloc_odt_fault (r ∷ a ∷ b ∷ []) = refl
alloc_odt_fault (r ∷ a ∷ b ∷ n ∷ rest) = not_short _ 5 (omega arith)

alloc_odt_entry_fault : (more : List ℕ) → result_err (alloc_odt_entry more) ≡ fault_of_len (1 + length more) (Some 6)
alloc_odt_entry_fault [] = refl
alloc_odt_entry_fault (r ∷ []) = refl
alloc_odt_entry_fault (r ∷ a ∷ []) = refl
alloc_odt_entry_fault (r ∷ a ∷ b ∷ []) = refl
alloc_odt_entry_fault (r ∷ a ∷ b ∷ k ∷ []) = refl
alloc_odt_entry_fault (r ∷ a ∷ b ∷ k ∷ n ∷ rest) = not_short _ 6 (omega arith)

set_daq_ptr_fault : (more : List ℕ) → result_err (set_daq_ptr more) ≡ fault_of_len (1 + length more) (Some 6)
set_daq_ptr_fault [] = refl
set_daq_ptr_fault (r ∷ []) = refl
set_daq_ptr_fault (r ∷ a ∷ []) = refl
set_daq_ptr_fault (r ∷ a ∷ b ∷ []) = refl
set_daq_ptr_fault (r ∷ a ∷ b ∷ k ∷ []) = refl
set_daq_ptr_fault (r ∷ a ∷ b ∷ k ∷ e ∷ rest) = not_short _ 6 (omega arith)

write_daq_fault : (more : List ℕ) → result_err (write_daq more) ≡ fault_of_len (1 + length more) (Some 8)
write_daq_fault [] = refl
write_daq_fault (bit ∷ []) = refl
write_daq_fault (bit ∷ size ∷ []) = refl
write_daq_fault (bit ∷ size ∷ ext ∷ []) = refl
write_daq_fault (bit ∷ size ∷ ext ∷ a ∷ []) = refl
write_daq_fault (bit ∷ size ∷ ext ∷ a ∷ b ∷ []) = refl
write_daq_fault (bit ∷ size ∷ ext ∷ a ∷ b ∷ c ∷ []) = refl
write_daq_fault (bit ∷ size ∷ ext ∷ a ∷ b ∷ c ∷ d ∷ rest) = not_short _ 8 (omega arith)

set_daq_list_mode_fault : (more : List ℕ) → result_err (set_daq_list_mode more) ≡ fault_of_len (1 + length more) (Some 8)
set_daq_list_mode_fault [] = refl
set_daq_list_mode_fault (mode ∷ []) = refl
set_daq_list_mode_fault (mode ∷ a ∷ []) = refl
set_daq_list_mode_fault (mode ∷ a ∷ b ∷ []) = refl
set_daq_list_mode_fault (mode ∷ a ∷ b ∷ c ∷ []) = refl
set_daq_list_mode_fault (mode ∷ a ∷ b ∷ c ∷ d ∷ []) = refl
set_daq_list_mode_fault (mode ∷ a ∷ b ∷ c ∷ d ∷ prescaler ∷ []) = refl
set_daq_list_mode_fault (mode ∷ a ∷ b ∷ c ∷ d ∷ prescaler ∷ priority ∷ rest) = not_short _ 8 (omega arith)

start_stop_daq_list_fault : (more : List ℕ) → result_err (start_stop_daq_list more) ≡ fault_of_len (1 + length more) (Some 4)
start_stop_daq_list_fault [] = refl
start_stop_daq_list_fault (mode ∷ []) = refl
start_stop_daq_list_fault (mode ∷ a ∷ []) = refl
start_stop_daq_list_fault (mode ∷ a ∷ b ∷ rest) = not_short _ 4 (omega arith)

start_stop_synch_fault : (more : List ℕ) → result_err (start_stop_synch more) ≡ fault_of_len (1 + length more) (Some 2)
start_stop_synch_fault [] = refl
start_stop_synch_fault (mode ∷ rest) = not_short _ 2 (omega arith)

-- one code of the table, and then the others
one_fault : (is : Bool) (len : ℕ) (x y : Result Command ErrCode) (m n : Option ℕ)
    → result_err x ≡ fault_of_len len m → result_err y ≡ fault_of_len len n
    → result_err (if is then x else y) ≡ fault_of_len len (if is then m else n)
one_fault true len x y m n here others = here
one_fault false len x y m n here others = others

-- a packet is refused with its error
pub read_fault : (packet : List ℕ) → result_err (command packet) ≡ packet_fault packet
read_fault [] = refl
read_fault (code ∷ more) =
    let len : ℕ = 1 + length more in
    one_fault (code == 0xD6) len (Ok FreeDaq) _ (Some 1) _ (not_short len 1 (omega arith))
    (one_fault (code == 0xD5) len (alloc_daq more) _ (Some 4) _ (alloc_daq_fault more)
    (one_fault (code == 0xD4) len (alloc_odt more) _ (Some 5) _ (alloc_odt_fault more)
    (one_fault (code == 0xD3) len (alloc_odt_entry more) _ (Some 6) _ (alloc_odt_entry_fault more)
    (one_fault (code == 0xE2) len (set_daq_ptr more) _ (Some 6) _ (set_daq_ptr_fault more)
    (one_fault (code == 0xE1) len (write_daq more) _ (Some 8) _ (write_daq_fault more)
    (one_fault (code == 0xE0) len (set_daq_list_mode more) _ (Some 8) _ (set_daq_list_mode_fault more)
    (one_fault (code == 0xDE) len (start_stop_daq_list more) _ (Some 4) _ (start_stop_daq_list_fault more)
    (one_fault (code == 0xDD) len (start_stop_synch more) (Err CmdUnknown) (Some 2) None (start_stop_synch_fault more) refl))))))))
