pub mod CertifyCommand
pub mod WhyCommand
