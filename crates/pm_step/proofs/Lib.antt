pub mod ExpressionLaws
pub mod Rising
pub mod StatementLaws
pub mod StepLaws
pub mod Writes
