-- Worked replies of a slave with one event channel, an absolute ODT number, timestamps of 4 bytes in
-- microseconds, a MAX_CTO of 64, its name `ng`, and `e0` its channel's.
use Rattle.std.proofs.Common.{◌≡◌, [], ◌∷◌, Ok, Err, false, refl}
use Rattle.xcp_base.specs.declared.err_code.ErrCode.TheVariants.{CmdSynch, CmdSyntax, CmdUnknown, OutOfRange}
use Rattle.daq_store.specs.declared.command.Command.TheVariants.{AllocDaq, ReadDaq, SetDaqListMode, StartStopDaqList, WriteDaq}
use Rattle.daq_store.specs.declared.reply.Reply.TheVariants.{Read}
use Rattle.daq_store.specs.Replies.{reply_bytes}
use Rattle.session.specs.declared.profile.Profile.{Profile}
use Rattle.session.specs.declared.request.Request.TheVariants.{Lists, SetMta, ShortUpload, WriteDaqMultiple}
use Rattle.session.specs.Fields.{packet_of}
use Rattle.session.specs.Replies.{clock_fields, comm_mode_fields, connect_reply, id_fields, list_mode_reply, status_fields}
use Rattle.session.specs.Sources.{text_reply}
use Rattle.session.specs.Requests.{request}

connect : (d : Profile) → packet_of (connect_reply (record d { max_cto = 64; max_dto = 64 }) 0) ≡ 0xFF ∷ 0x04 ∷ 0x80 ∷ 0x40 ∷ 0x40 ∷ 0x00 ∷ 0x01 ∷ 0x01 ∷ []
connect d = refl

connect_otherwise : (d : Profile) → packet_of (connect_reply d 1) ≡ 0xFE ∷ 0x22 ∷ []
connect_otherwise d = refl

-- no list runs
status : status_fields false ≡ 0 ∷ 0 ∷ 0 ∷ 0 ∷ 0 ∷ []
status = refl

synch : packet_of (Err CmdSynch) ≡ 0xFE ∷ 0x00 ∷ []
synch = refl

comm_mode : comm_mode_fields ≡ 0 ∷ 0 ∷ 0 ∷ 0 ∷ 0 ∷ 0 ∷ 0x10 ∷ []
comm_mode = refl

id : packet_of (Ok (id_fields 1 2 (0x6E ∷ 0x67 ∷ []))) ≡ 0xFF ∷ 0x01 ∷ 0 ∷ 0 ∷ 2 ∷ 0 ∷ 0 ∷ 0 ∷ 0x6E ∷ 0x67 ∷ []
id = refl

upload : packet_of (text_reply 64 2 (0x65 ∷ 0x30 ∷ [])) ≡ 0xFF ∷ 0x65 ∷ 0x30 ∷ []
upload = refl

upload_of_no_more : packet_of (text_reply 64 1 []) ≡ 0xFE ∷ 0x22 ∷ []
upload_of_no_more = refl

clock : clock_fields 0x01020304 ≡ 0 ∷ 0 ∷ 0 ∷ 4 ∷ 3 ∷ 2 ∷ 1 ∷ []
clock = refl

-- a list with a prescaler of 1 on channel 0, without timestamps
list_mode : packet_of (list_mode_reply (SetDaqListMode 0 0 0 1 0 ∷ AllocDaq 1 ∷ []) 0) ≡ 0xFF ∷ 0 ∷ 0 ∷ 0 ∷ 0 ∷ 0 ∷ 1 ∷ 0 ∷ []
list_mode = refl

-- the same list once it runs
list_mode_of_one_that_runs : packet_of (list_mode_reply (StartStopDaqList 1 0 ∷ SetDaqListMode 0x10 0 0 1 0 ∷ AllocDaq 1 ∷ []) 0) ≡ 0xFF ∷ 0x50 ∷ 0 ∷ 0 ∷ 0 ∷ 0 ∷ 1 ∷ 0 ∷ []
list_mode_of_one_that_runs = refl

-- READ_DAQ shows size, address extension and address, and of an unwritten entry none
entry_read : reply_bytes (Read 2 1 0x1001) ≡ 0xFF ∷ 0xFF ∷ 2 ∷ 1 ∷ 0x01 ∷ 0x10 ∷ 0 ∷ 0 ∷ []
entry_read = refl

unwritten_read : reply_bytes (Read 0 0 0) ≡ 0xFF ∷ 0xFF ∷ 0 ∷ 0 ∷ 0 ∷ 0 ∷ 0 ∷ 0 ∷ []
unwritten_read = refl

-- WRITE_DAQ
write_first : request 64 (0xE1 ∷ 0xFF ∷ 1 ∷ 0 ∷ 0x00 ∷ 0x10 ∷ 0 ∷ 0 ∷ []) ≡ Ok (Lists (WriteDaq 0xFF 1 0 0x1000))
write_first = refl

write_extended : request 64 (0xE1 ∷ 0xFF ∷ 1 ∷ 2 ∷ 0xFF ∷ 0x0F ∷ 0 ∷ 0 ∷ []) ≡ Ok (Lists (WriteDaq 0xFF 1 2 0x0FFF))
write_extended = refl

-- SET_MTA, and SHORT_UPLOAD of four bytes, at 0x1004
mta : request 64 (0xF6 ∷ 0 ∷ 0 ∷ 0 ∷ 0x04 ∷ 0x10 ∷ 0 ∷ 0 ∷ []) ≡ Ok (SetMta 0 0x1004)
mta = refl

short_upload : request 64 (0xF4 ∷ 4 ∷ 0 ∷ 0 ∷ 0x04 ∷ 0x10 ∷ 0 ∷ 0 ∷ []) ≡ Ok (ShortUpload 4 0 0x1004)
short_upload = refl

read : request 64 (0xDB ∷ []) ≡ Ok (Lists ReadDaq)
read = refl

-- packets of no known code, too short, with no entry, with the entries of one byte too few
unknown : request 64 (0xC0 ∷ []) ≡ Err CmdUnknown
unknown = refl

short : request 64 (0xE3 ∷ 0 ∷ 0 ∷ []) ≡ Err CmdSyntax
short = refl

no_entries : request 64 (0xC7 ∷ 0 ∷ []) ≡ Err OutOfRange
no_entries = refl

entry_cut : request 64 (0xC7 ∷ 1 ∷ 0xFF ∷ 1 ∷ 0 ∷ 0 ∷ 0 ∷ 0 ∷ 0 ∷ []) ≡ Err CmdSyntax
entry_cut = refl

one_entry : request 64 (0xC7 ∷ 1 ∷ 0xFF ∷ 1 ∷ 0 ∷ 0 ∷ 0 ∷ 0 ∷ 0 ∷ 0 ∷ []) ≡ Ok (WriteDaqMultiple 1)
one_entry = refl
