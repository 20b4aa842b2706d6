-- What an auditor must believe of the listing (P3 to P9 and I32 of the specification): its text, and what the call
-- writes.
pub mod Text
pub mod Calls
