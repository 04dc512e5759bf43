pub mod EntriesWritten
