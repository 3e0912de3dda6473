-- The tables of lines, operands, digits and escapes, and what rows of a table pass.
pub mod BriefLines
pub mod BriefTables
pub mod DigitTables
pub mod EscapeTable
pub mod RowTests
pub mod NumberedLines
