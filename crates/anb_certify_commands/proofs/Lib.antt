mod Reasons
mod Telling
mod WhyWritten
mod Lines
mod Certificates
