-- What an auditor must believe of the refusals' messages (CM1 and IC9 of the specification): their text, and
-- what the call that writes one returns.
pub mod Messages
