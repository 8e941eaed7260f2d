-- The standard's names, by their codes (ASAM MCD-1 XCP, protocol layer: command codes, error codes,
-- event codes and service request codes).
use Rattle.std.specs.Prelude.{ℕ, ◌==◌, List, [], ◌∷◌, codes, Option, Some, None, if◌then◌else◌}

-- the name in the first row of this code
abbrev pub named : List (ℕ × List ℕ) → ℕ → Option (List ℕ)
named [] code = None
named (row ∷ rows) code = if row.0 == code then Some row.1 else named rows code

abbrev pub command_names : List (ℕ × List ℕ)
command_names =
    (0xFF, codes "CONNECT")
    ∷ (0xFE, codes "DISCONNECT")
    ∷ (0xFD, codes "GET_STATUS")
    ∷ (0xFC, codes "SYNCH")
    ∷ (0xFB, codes "GET_COMM_MODE_INFO")
    ∷ (0xFA, codes "GET_ID")
    ∷ (0xF9, codes "SET_REQUEST")
    ∷ (0xF8, codes "GET_SEED")
    ∷ (0xF7, codes "UNLOCK")
    ∷ (0xF6, codes "SET_MTA")
    ∷ (0xF5, codes "UPLOAD")
    ∷ (0xF4, codes "SHORT_UPLOAD")
    ∷ (0xF3, codes "BUILD_CHECKSUM")
    ∷ (0xF2, codes "TRANSPORT_LAYER_CMD")
    ∷ (0xF1, codes "USER_CMD")
    ∷ (0xF0, codes "DOWNLOAD")
    ∷ (0xEF, codes "DOWNLOAD_NEXT")
    ∷ (0xEE, codes "DOWNLOAD_MAX")
    ∷ (0xED, codes "SHORT_DOWNLOAD")
    ∷ (0xEC, codes "MODIFY_BITS")
    ∷ (0xEB, codes "SET_CAL_PAGE")
    ∷ (0xEA, codes "GET_CAL_PAGE")
    ∷ (0xE9, codes "GET_PAG_PROCESSOR_INFO")
    ∷ (0xE8, codes "GET_SEGMENT_INFO")
    ∷ (0xE7, codes "GET_PAGE_INFO")
    ∷ (0xE6, codes "SET_SEGMENT_MODE")
    ∷ (0xE5, codes "GET_SEGMENT_MODE")
    ∷ (0xE4, codes "COPY_CAL_PAGE")
    ∷ (0xE3, codes "CLEAR_DAQ_LIST")
    ∷ (0xE2, codes "SET_DAQ_PTR")
    ∷ (0xE1, codes "WRITE_DAQ")
    ∷ (0xE0, codes "SET_DAQ_LIST_MODE")
    ∷ (0xDF, codes "GET_DAQ_LIST_MODE")
    ∷ (0xDE, codes "START_STOP_DAQ_LIST")
    ∷ (0xDD, codes "START_STOP_SYNCH")
    ∷ (0xDC, codes "GET_DAQ_CLOCK")
    ∷ (0xDB, codes "READ_DAQ")
    ∷ (0xDA, codes "GET_DAQ_PROCESSOR_INFO")
    ∷ (0xD9, codes "GET_DAQ_RESOLUTION_INFO")
    ∷ (0xD8, codes "GET_DAQ_LIST_INFO")
    ∷ (0xD7, codes "GET_DAQ_EVENT_INFO")
    ∷ (0xD6, codes "FREE_DAQ")
    ∷ (0xD5, codes "ALLOC_DAQ")
    ∷ (0xD4, codes "ALLOC_ODT")
    ∷ (0xD3, codes "ALLOC_ODT_ENTRY")
    ∷ (0xD2, codes "PROGRAM_START")
    ∷ (0xD1, codes "PROGRAM_CLEAR")
    ∷ (0xD0, codes "PROGRAM")
    ∷ (0xCF, codes "PROGRAM_RESET")
    ∷ (0xCE, codes "GET_PGM_PROCESSOR_INFO")
    ∷ (0xCD, codes "GET_SECTOR_INFO")
    ∷ (0xCC, codes "PROGRAM_PREPARE")
    ∷ (0xCB, codes "PROGRAM_FORMAT")
    ∷ (0xCA, codes "PROGRAM_NEXT")
    ∷ (0xC9, codes "PROGRAM_MAX")
    ∷ (0xC8, codes "PROGRAM_VERIFY")
    ∷ (0xC7, codes "WRITE_DAQ_MULTIPLE")
    ∷ (0xC6, codes "TIME_CORRELATION_PROPERTIES")
    ∷ (0xC5, codes "DTO_CTR_PROPERTIES")
    ∷ []

abbrev pub command_name : ℕ → Option (List ℕ)
command_name code = named command_names code

abbrev pub error_names : List (ℕ × List ℕ)
error_names =
    (0x00, codes "ERR_CMD_SYNCH")
    ∷ (0x10, codes "ERR_CMD_BUSY")
    ∷ (0x11, codes "ERR_DAQ_ACTIVE")
    ∷ (0x12, codes "ERR_PGM_ACTIVE")
    ∷ (0x20, codes "ERR_CMD_UNKNOWN")
    ∷ (0x21, codes "ERR_CMD_SYNTAX")
    ∷ (0x22, codes "ERR_OUT_OF_RANGE")
    ∷ (0x23, codes "ERR_WRITE_PROTECTED")
    ∷ (0x24, codes "ERR_ACCESS_DENIED")
    ∷ (0x25, codes "ERR_ACCESS_LOCKED")
    ∷ (0x26, codes "ERR_PAGE_NOT_VALID")
    ∷ (0x27, codes "ERR_MODE_NOT_VALID")
    ∷ (0x28, codes "ERR_SEGMENT_NOT_VALID")
    ∷ (0x29, codes "ERR_SEQUENCE")
    ∷ (0x2A, codes "ERR_DAQ_CONFIG")
    ∷ (0x30, codes "ERR_MEMORY_OVERFLOW")
    ∷ (0x31, codes "ERR_GENERIC")
    ∷ (0x32, codes "ERR_VERIFY")
    ∷ (0x33, codes "ERR_RESOURCE_TEMPORARY_NOT_ACCESSIBLE")
    ∷ (0x34, codes "ERR_SUBCMD_UNKNOWN")
    ∷ (0x35, codes "ERR_TIMECORR_STATE_CHANGE")
    ∷ []

abbrev pub error_name : ℕ → Option (List ℕ)
error_name code = named error_names code

abbrev pub event_names : List (ℕ × List ℕ)
event_names =
    (0x00, codes "EV_RESUME_MODE")
    ∷ (0x01, codes "EV_CLEAR_DAQ")
    ∷ (0x02, codes "EV_STORE_DAQ")
    ∷ (0x03, codes "EV_STORE_CAL")
    ∷ (0x05, codes "EV_CMD_PENDING")
    ∷ (0x06, codes "EV_DAQ_OVERLOAD")
    ∷ (0x07, codes "EV_SESSION_TERMINATED")
    ∷ (0x08, codes "EV_TIME_SYNC")
    ∷ (0x09, codes "EV_STIM_TIMEOUT")
    ∷ (0x0A, codes "EV_SLEEP")
    ∷ (0x0B, codes "EV_WAKE_UP")
    ∷ (0x0C, codes "EV_ECU_STATE_CHANGE")
    ∷ (0xFE, codes "EV_USER")
    ∷ (0xFF, codes "EV_TRANSPORT")
    ∷ []

abbrev pub event_name : ℕ → Option (List ℕ)
event_name code = named event_names code

abbrev pub service_names : List (ℕ × List ℕ)
service_names =
    (0x00, codes "SERV_RESET")
    ∷ (0x01, codes "SERV_TEXT")
    ∷ []

abbrev pub service_name : ℕ → Option (List ℕ)
service_name code = named service_names code
