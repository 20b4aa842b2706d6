-- What an auditor must believe of the examples (J1 to J9 of the specification): what each says, and their table.
pub mod Examples
